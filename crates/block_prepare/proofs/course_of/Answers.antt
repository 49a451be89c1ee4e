-- `block_prepare::course_of` meets its contract.
use Rattle.block_prepare.proofs.Courses.{course-is}
use Rattle.block_prepare.proofs.course_of.Goals as goal

pub returns : goal.returns
returns c =
    let a = c.args in
    course-is a.on a.field _ _ a.plans a.control _ c.most_chunks-chunks.ensures c.at_most-few.ensures
