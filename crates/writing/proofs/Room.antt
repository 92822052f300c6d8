-- Rows 14 and 15 of a write, from what would result.
use Prim.Native.Nat.{ℕ, ◌+◌, ◌*◌, ◌≤◌, ◌<◌}
use mathlib.Core.Path.{◌≡◌, refl}
use mathlib.Core.Bool.{true, false}
use mathlib.Core.List.{List}
use native.Mathlib.Omega.{arith}
use lib.Dec.{ltb}
use lib.ListN.{length}
use borrow.Author.Tests.{lt-ltb, le-ltb, ltb-false}
use Rattle.rules.specs.Layout.{touch_limit, entry_limit}
use Rattle.rules.specs.Session.{touching, merged_count}
use Rattle.rules.specs.Rows.{too_many, no_room}
use Rattle.rules.specs.Calls.{row, ◌then◌}
use Rattle.rules.specs.declared.Entry.{Entry}
use Rattle.rules.proofs.Rows.{row-holds, row_past, last-holds, last_past, row-clear, then-clear}
use Rattle.rules.proofs.Sessions.{or-none}
use Rattle.touching.specs.Pages.{Counted}

-- Rows 14 and 15.
abbrev pub room_rows : List Entry → List ℕ → ℕ → ℕ → ℕ → ℕ
room_rows index own long end p = row 14 (too_many index own) then row 15 (no_room long (end + length own * p))

many-pages : (index : List Entry) (own : List ℕ) → touch_limit < length own → true ≡ too_many index own
unfolding too_many
many-pages index own l = rw (lt-ltb touch_limit (length own) l)

many_entries : (index : List Entry) (own : List ℕ) → length own ≤ touch_limit → entry_limit < merged_count index own → true ≡ too_many index own
unfolding too_many
many_entries index own k l = rw (le-ltb touch_limit (length own) k, lt-ltb entry_limit (merged_count index own) l)

few_enough : (index : List Entry) (own : List ℕ) → length own ≤ touch_limit → merged_count index own ≤ entry_limit → false ≡ too_many index own
unfolding too_many
few_enough index own k l = rw (le-ltb touch_limit (length own) k, le-ltb entry_limit (merged_count index own) l)

room_is : (long end : ℕ) → ltb long end ≡ no_room long end
unfolding no_room
room_is long end = refl

module _ {index : List Entry} {own pages : List ℕ} {touched merged : ℕ} (long end p : ℕ) (c : Counted index own pages touched merged) where
  pub room-pages : touch_limit < touched → 14 ≡ room_rows index (touching own pages) long end p
  room-pages l = row-holds 14 _ (omega arith) (many-pages index (touching own pages) (c.over l)) refl

  module _ (few : touched ≤ touch_limit) where
    pub room_entries : entry_limit < merged → 14 ≡ room_rows index (touching own pages) long end p
    room_entries l =
        let e = c.exact few in
        row-holds 14 _ (omega arith) (many_entries index (touching own pages) (omega (arith, e.0)) (omega (arith, e.1))) refl

    module _ (low : merged ≤ entry_limit) where
      past : {k : ℕ} → k ≡ row 15 (no_room long (end + length (touching own pages) * p)) → k ≡ room_rows index (touching own pages) long end p
      past h =
          let e = c.exact few in
          row_past 14 _ (few_enough index (touching own pages) (omega (arith, e.0)) (omega (arith, e.1))) refl h

      room_judged : ltb long (end + touched * p) ≡ no_room long (end + length (touching own pages) * p)
      room_judged = rw (c.exact few).0 (room_is long (end + length (touching own pages) * p))

      pub room-short : long < end + touched * p → 15 ≡ room_rows index (touching own pages) long end p
      room-short l = past (last-holds 15 room_judged (lt-ltb long (end + touched * p) l))

      pub room_fine : end + touched * p ≤ long → 0 ≡ room_rows index (touching own pages) long end p
      room_fine l = past (last_past 15 room_judged (le-ltb long (end + touched * p) l))

-- What they leave.
pub record Roomy (index : List Entry) (own : List ℕ) (long end p : ℕ) : Type 0 where
  pub touches : length own ≤ touch_limit
  pub room : end + length own * p ≤ long

few-pages : (index : List Entry) (own : List ℕ) → too_many index own ≡ false → length own ≤ touch_limit
unfolding too_many
few-pages index own e = ltb-false touch_limit (length own) (or-none _ _ e).0

pub rows_roomy : (index : List Entry) (own : List ℕ) (long end p : ℕ) → room_rows index own long end p ≡ 0 → Roomy index own long end p
unfolding no_room
rows_roomy index own long end p z =
    let w = then-clear _ _ z in
    record {
      touches = few-pages index own (row-clear 14 _ (omega arith) w.0);
      room = ltb-false long (end + length own * p) (row-clear 15 _ (omega arith) w.1);
    }
