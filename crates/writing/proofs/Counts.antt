-- How many entries pages put in can result in.
use Prim.Native.Nat.{ℕ, suc, ◌+◌, ◌≤◌}
use mathlib.Core.Bool.{Bool, true, false, cond}
use mathlib.Core.List.{List, [], ◌∷◌}
use native.Mathlib.Omega.{arith}
use lib.Dec.{ltb, eqb}
use lib.ListN.{length}
use Rattle.rules.specs.Session.{put, put_all, placeless, merged_count}
use Rattle.rules.specs.declared.Entry.{Entry}

put-most : (e : Entry) (index : List Entry) → length (put e index) ≤ length index + 1
unfolding put
put-most e [] = omega arith
put-most e (x ∷ index) = go (ltb e.logical x.logical) (eqb e.logical x.logical) (put-most e index)
  where
    go : (a b : Bool) → length (put e index) ≤ length index + 1 → length (cond a (e ∷ x ∷ index) (cond b (e ∷ index) (x ∷ put e index))) ≤ suc (length index) + 1
    go true b l = omega arith
    go false true l = omega arith
    go false false l = omega (arith, l)

all_most : (make : ℕ → ℕ → Entry) (i : ℕ) (pages : List ℕ) (index : List Entry) → length (put_all make i pages index) ≤ length index + length pages
unfolding put_all
all_most make i [] index = omega arith
all_most make i (a ∷ pages) index = omega (arith, all_most make (suc i) pages (put (make i a) index), put-most (make i a) index)

pub merged-most : (index : List Entry) (pages : List ℕ) → merged_count index pages ≤ length index + length pages
unfolding merged_count
merged-most index pages = all_most placeless 0 pages index
