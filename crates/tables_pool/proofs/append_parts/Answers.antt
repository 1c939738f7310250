-- `tables_pool::append_parts` meets its contract: the parts before this one stand at the list's end.
-- Assumes nothing.
use Rattle.std.proofs.Common.{◌≡◌, ◌-◌, ◌∙◌, arith}
use Rattle.shape.specs.Limits.{parts}
use Rattle.tables_pool.proofs.Members.{grown-none, grown-ready, grown-more}
use Rattle.tables_pool.proofs.append_parts.Goals as goal

pub loop-part-init : goal.loop-part-init
loop-part-init c = grown-none c.requires.0 c.args.b

pub append-requires : goal.append-requires
unfolding parts
append-requires c =
    let grown = grown-ready c.requires.0 c.args.b c.loop-part.part (omega arith) in
    rw c.loop-part.invariant (grown.0, grown.1, omega arith)

pub loop-part-preserved : goal.loop-part-preserved
unfolding parts
loop-part-preserved c =
    c.append.ensures
    ∙ rw c.loop-part.invariant
    (grown-more c.requires.0 c.args.b c.loop-part.part (omega arith) (omega arith))

pub returns : goal.returns
unfolding parts
returns c =
    let all : c.loop-part.part - c.args.b ≡ 3 = omega arith in
    rw all at c.loop-part.invariant
