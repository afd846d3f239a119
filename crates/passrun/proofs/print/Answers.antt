-- The number of the first no alone on a line, or the listing.
use Rattle.passrun.proofs.Laws.{listed, refused}
use Rattle.passrun.proofs.print.Goals as goal

pub returns-in-Ok : goal.returns-in-Ok
returns-in-Ok c =
    let l = c.in-Ok.ensures in
    let w = listed _ _ c.requires l.out_after l.result_value in
    record { wrote = w.0; upper_bound = w.1 }

pub returns-in-Err : goal.returns-in-Err
returns-in-Err c =
    let l = c.in-Err.ensures in
    let put = c.put_number.ensures in
    let w = refused _ _ c.requires l.out_after l.result_value c.into.ensures put.out_after put.value in
    record { wrote = w.0; upper_bound = w.1 }
