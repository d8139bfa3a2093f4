use Rattle.teaching.proofs.+of_order.Given as goal

-- proposed from what the function passes where it calls itself
abbrev pub decreases-of_order : goal.decreases-of_order
decreases-of_order l = l.n
