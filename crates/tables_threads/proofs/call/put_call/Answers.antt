-- `put_call` meets its contract: the six cells in the place of the thread's are the run of stores of `put_call`.
-- Assumes nothing.
use Rattle.std.proofs.Common.{◌≡◌, refl, List, ℕ, ◌+◌, ◌-◌, ◌≤◌, length, arith}
use Rattle.std.proofs.lemmas.Grind.{common_steps}
use Rattle.std.proofs.lemmas.List.Edits.{sets, sets-eq}
use borrow.Rule.Slice.PartMut.{put_mid}
use Rattle.rules.specs.Tables.{put_call}
use Rattle.tables_threads.proofs.call.put_call.Goals as goal

-- cells copied over a part of a row are as many stores
copied :
    (xs ys : List ℕ) (a k : ℕ) {zs : List ℕ} → zs ≡ ys → length ys ≡ k → a + k ≤ length xs →
    put_mid a (a + k - a) xs zs ≡ sets xs a ys
copied xs ys a k e n h = rw (e, sets-eq ys xs a (omega arith)) (grind (arith, common_steps))

pub returns : goal.returns
unfolding put_call
returns c = copied _ _ _ _ c.copy_from_slice.ensures.after refl c.requires
