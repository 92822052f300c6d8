-- Lines, written piece after piece.
use mathlib.Core.Path.{◌≡◌, refl, sym, ◌∙◌}
use mathlib.Core.List.{List, ◌++◌, append_assoc}
use Prim.Native.Nat.{ℕ, ◌+◌, ◌-◌, ◌≤◌}
use native.Mathlib.Omega.{arith}
use lib.ListN.{length, take, drop, length-append, length-take, length-drop}
use lib.Seq.{take-take}
use Rattle.rules.specs.Bytes.{part, laid}
use Rattle.rules.specs.Listing.{decimal, yes_no, newline, pages_word, original_word, revisions_word, lock_word, branch_word, setting_line, space, shown_name, record_line}
use Rattle.rules.specs.Layout.{time_of, name_at}
use Rattle.rules.specs.declared.Form.{Form}
use Rattle.rules.specs.declared.Setting.{Setting}
use Rattle.rules.specs.declared.Record.{Record}
use Rattle.rules.proofs.Places.{count-least}
use Rattle.rules.proofs.Bytes.{laid_then, slice-part}
use Rattle.listing.specs.Written.{Written, Shown}

-- A run of bytes that was laid is a text that was written,
pub written_run : {before run after : List ℕ} {at : ℕ} → after ≡ laid before at run → Written before at run after (at + length run)
written_run e = record { bytes = e; next = refl }

-- and one text directly behind another is a longer one.
pub written_then : {x0 x1 x2 ys zs : List ℕ} {at next end : ℕ} → Written x0 at ys x1 next → Written x1 next zs x2 end → next ≤ length x0
    → Written x0 at (ys ++ zs) x2 end
written_then {x0} {x1} {x2} {ys} {zs} {at} {next} a b h = record {
  bytes = laid_then x0 x1 x2 ys zs at next a.bytes b.bytes (sym a.next) h;
  next = rw length-append (omega (arith, a.next, b.next));
}

-- The same where the second starts with a word.
pub written_more : {x0 x1 x2 ys : List ℕ} {at next end : ℕ} (word zs : List ℕ) → Written x0 at ys x1 next → Written x1 next (word ++ zs) x2 end → next ≤ length x0
    → Written x0 at (ys ++ word ++ zs) x2 end
written_more {x0} {x1} {x2} {ys} word zs a b h = rw (append_assoc ys word zs) (written_then a b h)

written_same : {x0 x1 ys zs : List ℕ} {at end : ℕ} → Written x0 at ys x1 end → ys ≡ zs → Written x0 at zs x1 end
written_same w e = rw (← e) w

-- ---- The history's line

pub setting_long : (s : Setting) → length (setting_line s)
    ≡ 42 + length (decimal s.form.page) + length (decimal s.original) + length (decimal s.count) + length (yes_no s.lock) + length (yes_no s.branching)
unfolding setting_line
setting_long s = simp length-append (omega arith)

-- Six pieces, one behind the other.
pub setting-written : {x0 x1 x2 x3 x4 x5 x6 : List ℕ} {at a1 a2 a3 a4 a5 : ℕ} (s : Setting) → at + length (setting_line s) ≤ length x0
    → Written x0 at (pages_word ++ decimal s.form.page) x1 a1
    → Written x1 a1 (original_word ++ decimal s.original) x2 a2
    → Written x2 a2 (revisions_word ++ decimal s.count) x3 a3
    → Written x3 a3 (lock_word ++ yes_no s.lock) x4 a4
    → Written x4 a4 (branch_word ++ yes_no s.branching) x5 a5
    → x6 ≡ laid x5 a5 newline
    → Written x0 at (setting_line s) x6 (a5 + 1)
unfolding setting_line
setting-written s h w1 w2 w3 w4 w5 e =
    let l = setting_long s in
    written_then
    (written_more _ _
    (written_more _ _ (written_more _ _ (written_more _ _ w1 w2 (omega arith)) w3 (omega arith)) w4 (omega arith))
    w5 (omega arith))
    (written_run e) (omega arith)

-- ---- A record's line

-- The part of so many bytes from an address, as the code takes it, from one address to another.
abbrev pub between : List ℕ → ℕ → ℕ → List ℕ
between h from n = take (from + n - from) (drop from h)

-- What is shown of time and name, by their places.
time_between : (h : List ℕ) (r : Record) (time : ℕ) → part h time 16 ≡ time_of h r → time_of h r ≡ between h time 16
time_between h r time e = sym e ∙ sym (slice-part h time 16)

name_between : (h : List ℕ) (f : Form) (r : Record) (name : ℕ) → name ≡ name_at f r → shown_name h f r ≡ between h name (r.name - 1)
name_between h f r name e = take-take (r.name - 1) r.name _ (omega arith) ∙ rw (← e) (sym (slice-part h name (r.name - 1)))

module _ {h : List ℕ} {f : Form} {r : Record} (s : Shown h f r) where
  time_long : length (time_of h r) ≡ 16
  time_long = simp (length-take, length-drop) (omega (arith, s.inside, count-least f))

  name_long : length (shown_name h f r) + 1 ≡ r.name
  name_long = simp (length-take, length-drop) (omega (arith, s.inside, s.named))

  pub record_long : length (record_line h f r)
      ≡ 21 + r.name + length (decimal r.revision) + length (decimal r.parent) + length (decimal r.logical) + length (decimal r.entries)
  unfolding record_line
  record_long = simp length-append (omega (arith, time_long, name_long))

-- Five pieces, one behind the other: behind each there is room for the next.
module _ {x0 x1 : List ℕ} {at a1 : ℕ} {h : List ℕ} {f : Form} {r : Record} (time name : ℕ) (et : part h time 16 ≡ time_of h r) (en : name ≡ name_at f r)
    (s : (at + length (record_line h f r) ≤ length x0) × Shown h f r) (w1 : Written x0 at (decimal r.revision ++ space ++ decimal r.parent) x1 a1) where
  timed : length (between h time 16) ≡ 16
  timed = rw (← time_between h r time et) (time_long s.1)

  called : length (between h name (r.name - 1)) + 1 ≡ r.name
  called = rw (← name_between h f r name en) (name_long s.1)

  pub room_time : a1 + 1 + length (between h time 16) ≤ length x0
  room_time = omega (arith, record_long s.1, timed, simp length-append at w1.next)

  module _ {x2 : List ℕ} {a2 : ℕ} (w2 : Written x1 a1 (space ++ between h time 16) x2 a2) where
    pub room_numbers : a2 + 1 + length (decimal r.logical) + 1 + length (decimal r.entries) ≤ length x0
    room_numbers = omega (arith, record_long s.1, timed, simp length-append at w1.next)

    module _ {x3 : List ℕ} {a3 : ℕ} (w3 : Written x2 a2 (space ++ decimal r.logical ++ space ++ decimal r.entries) x3 a3) where
      pub room_name : a3 + 1 + length (between h name (r.name - 1)) + 1 ≤ length x0
      room_name = omega (arith, record_long s.1, timed, called, simp length-append at w1.next, simp length-append at w3.next)

      module _ {x4 : List ℕ} {a4 : ℕ} (w4 : Written x3 a3 (space ++ between h name (r.name - 1)) x4 a4) where
        pub room-newline : a4 + 1 ≤ length x0
        room-newline = omega (arith, room_name)

        pub record-written : {x5 : List ℕ} → x5 ≡ laid x4 a4 newline → Written x0 at (record_line h f r) x5 (a4 + 1)
        unfolding record_line
        record-written e =
            let a = room_time in
            let b = room_numbers in
            let c = room_name in
            let w = written_then (written_then (written_then w1 w2 (omega arith)) w3 (omega arith)) w4 (omega arith) in
            rw (time_between h r time et, name_between h f r name en) (written_same (written_then w (written_run e) (omega arith)) (simp append_assoc))
