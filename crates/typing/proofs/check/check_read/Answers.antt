-- `check_read` meets its contract. Assumes nothing.
use native.Mathlib.Omega.{arith}
use lib.ListN.{get_or-replicate}
use borrow.Author.Rules.{rules}
use Rattle.typing.proofs.LawsCheck.{check_tables, check_run, check_small, check_told}
use Rattle.typing.proofs.check.check_read.Goals as goal

pub index_types-requires : goal.index_types-requires
index_types-requires c = (check_tables c.requires, search rules)

pub invariant_of-indexed : goal.invariant_of-indexed
invariant_of-indexed c = record { read = check_tables c.requires; indexed = c.index_types.ensures }

pub run-stepped-requires : goal.run-stepped-requires
run-stepped-requires c = (check_run c.requires c.index_types.ensures (search rules) (λ h l. get_or-replicate 4736 h 0 0 (omega arith)), omega (arith, c.requires.rows_long))

pub finish-requires : goal.finish-requires
finish-requires c = check_small c.requires c.run-stepped.ensures.told

pub returns : goal.returns
returns c = check_told c.requires c.run-stepped.ensures.told c.run-stepped.ensures.same_buffers.1 (search rules) c.finish.ensures.value (search rules)
