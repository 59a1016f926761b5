-- `check` meets its contract, which has demand 3 in it. Assumes nothing.
use Rattle.typing.proofs.LawsCheck.{check_unread, with_demands, was_read, check_told_sections}
use Rattle.typing.proofs.check.check.Goals as goal

pub returns-in-Err : goal.returns-in-Err
returns-in-Err c =
    let told = with_demands (check_unread c.read.ensures.value c.in-Err.is c.number.ensures c.bare.ensures) in
    record { checked = told.0; demands = told.1 }

pub check_sections-requires : goal.check_sections-requires
check_sections-requires c = was_read _ c.read.ensures.value c.in-Ok.is

pub returns-in-Ok : goal.returns-in-Ok
returns-in-Ok c =
    let told = check_told_sections _ c.read.ensures.value c.in-Ok.is c.check_sections.ensures in
    record { checked = told.0; demands = told.1 }
