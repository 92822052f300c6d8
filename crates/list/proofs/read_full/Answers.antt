-- What a turn reads stands behind what was read before it.
use Rattle.std.proofs.Common.{◌≡◌, ℕ, ◌+◌, ◌-◌, ◌≤◌, List, ◌++◌, drop, rules, arith, length, take, slice_range, sym, ap, ◌∙◌, subst, le_refl, drop_at, length-take-le}
use Rattle.std.proofs.lemmas.Slice.{take-put_mid_below}
use Rattle.std.specs.Io.KnownBytes.{Consumes}
use Rattle.std.proofs.KnownBytes.{Consumes-trans}
use borrow.Rule.Slice.PartMut.{put_mid, post_of}
use lib.Seq.{take-add, take-append-le}
use Rattle.list.proofs.read_full.Goals as goal

-- A front that stays, and the bytes behind it.
front_more : (read more : ℕ) (old new : List ℕ) → take read new ≡ take read old → take read old ++ slice_range new read (read + more) ≡ take (read + more) new
front_more read more old new front =
    let same : read + more - read ≡ more = omega arith in
    ap (λ bytes. bytes ++ slice_range new read (read + more)) (sym front) ∙ ap (λ n. take read new ++ take n (drop read new)) same ∙ sym (take-add read more new)

-- The first bytes of a part, seen in the whole that it was put into.
part_front : (read room more : ℕ) (whole part : List ℕ) → read ≤ length whole → more ≤ length part → slice_range (put_mid read room whole part) read (read + more) ≡ take more part
part_front read room more whole part within fits =
    let same : read + more - read ≡ more = omega arith in
    let after = post_of read room whole in
    ap (take (read + more - read)) (drop_at (take read whole) (part ++ after) read (length-take-le read whole within)) ∙ ap (λ n. take n (part ++ after)) same ∙ take-append-le more part after fits

pub loop-read-preserved : goal.loop-read-preserved
loop-read-preserved g c =
    let read = c.loop-read.read in
    let before = c.loop-read.buffer in
    let room = length before - read in
    let within = c.loop-read.invariant.1 in
    let part = part_front read room c.in_ok-more.more before c.read.new.buf within c.in_ok-more.ensures.bound.0 in
    let joined = front_more read c.in_ok-more.more before (put_mid read room before c.read.new.buf) (take-put_mid_below _ _ _ _ _ (le_refl _) within) in
    (search rules, search rules, subst (Consumes _ _) (ap (λ bytes. take read before ++ bytes) (sym part) ∙ joined) (Consumes-trans _ _ _ _ _ c.loop-read.invariant.2 c.in_ok-more.ensures.bytes.0))
