-- `index::index_types` meets its contract. Assumes nothing.
use native.Mathlib.Omega.{arith}
use lib.ListN.{get_or-replicate}
use borrow.Author.Rules.{rules}
use Rattle.type_index.proofs.index.index_types.Goals as goal

pub chain_records-requires : goal.chain_records-requires
chain_records-requires c = record { laid = c.requires.0.laid; long = search rules; none = λ h l. get_or-replicate 320 h 0 0 (omega arith) }
