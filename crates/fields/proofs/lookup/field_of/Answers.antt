-- `lookup::field_of` meets its contract. Assumes nothing.
use borrow.Author.Rules.{rules}
use Rattle.fields.proofs.LawsLookup.{no_record, own_fields, record_field}
use Rattle.fields.proofs.lookup.field_of.Goals as goal

pub returns-then-sections-owner : goal.returns-then-sections-owner
returns-then-sections-owner c = search (no_record, rules)

pub field_among-requires : goal.field_among-requires
field_among-requires c = search (own_fields, rules)

pub returns : goal.returns
returns c = search (record_field, rules)
