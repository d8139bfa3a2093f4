-- `sources` meets its contract. Assumes nothing.
use Rattle.std.proofs.Common.{◌≡◌, ◌+◌, rules}
use Rattle.strips.proofs.FromFn.{from_fn_each}
use Rattle.udu.specs.inner.Contracts.{source_of}
use Rattle.udu.proofs.column.sources.Goals as goal

pub returns : goal.returns
returns g c = from_fn_each (λ i s. s ≡ source_of c.args.n c.args.u.now c.args.d.now c.args.j (c.args.k + i)) _ c.from_fn.ensures.items (λ i s q called. (search rules, search rules))
