pub mod Strip
