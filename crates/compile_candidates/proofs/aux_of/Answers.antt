-- `compile_candidates::aux_of` meets its contract: a known source's number is below 256.
use Rattle.compile_candidates.proofs.Bytes.{known-byte}
use Rattle.compile_candidates.proofs.aux_of.Goals as goal

pub returns-in-None : goal.returns-in-None
returns-in-None c = λ h. rw c.in-None.is

pub returns-in-Some : goal.returns-in-Some
returns-in-Some c = λ h.
    let a = c.args in
    rw c.in-Some.is (c.kept.ensures (known-byte a.sources c.in-Some.i (rw c.in-Some.is at h)))
