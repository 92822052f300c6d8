-- The laws of an index: the entries that stand in bytes, the places of pages among them, and pages put in or put over.
use mathlib.Core.Path.{◌≡◌, refl, sym, ap, ◌∙◌}
use mathlib.Core.Bool.{Bool, true, false, cond, ◌||◌, true≢false, and-eq-true_iff, or_assoc, or_self_left, or-false, or-true}
use mathlib.Core.Logic.{◌⊎◌, inl, inr, ⊎_elim}
use mathlib.Core.List.{List, [], ◌∷◌, ◌++◌, append_assoc}
use Prim.Native.Nat.{ℕ, zero, suc, ◌+◌, ◌*◌, ◌%◌, ◌≤◌, ◌<◌}
use native.Mathlib.Nat.{add-zero, add-suc, suc-add, suc-mul}
use native.Mathlib.Omega.{arith}
use lib.Dec.{ltb, eqb, leb-suc-suc}
use lib.ListN.{length, take, get_or, length-append, length-map, get_or-map}
use borrow.Author.Tests.{lt-ltb, le-ltb, eq-eqb, ne_eqb, eqb-true, eqb-false, ltb-true, ltb-false, leb-true, not-true}
use Rattle.rules.specs.Bytes.{number_at, laid}
use Rattle.rules.specs.Layout.{sum_stands, sums_stand, entry_width, entries_width, empty_end, entry_bytes, index_bytes, entry_at, entries_at}
use Rattle.rules.specs.Orders.{Rising, Distinct}
use Rattle.rules.specs.View.{place_of, has, no_entry, logicals, has_page, entry_of, own_pages}
use Rattle.rules.specs.Session.{touching, put, put_all, own_entry, merged_index, placeless, merged_count}
use Rattle.rules.specs.Rows.{entry_right, entries_right, pages_fit}
use Rattle.rules.specs.declared.Form.{Form}
use Rattle.rules.specs.declared.Setting.{Setting}
use Rattle.rules.specs.declared.Record.{Record}
use Rattle.rules.specs.declared.Entry.{Entry}
use Rattle.rules.specs.declared.State.{State}
use Rattle.rules.proofs.Bytes.{length-number_bytes, take-laid, part-laid-below}
use Rattle.rules.proofs.Places.{
  part-take,
  entry-least,
  entries_none,
  entries_next,
  address-take,
  length-address_bytes,
  page-sum-take,
  length-page_sum_bytes,
}

-- ---- the logical addresses of entries

pub length-logicals : (index : List Entry) → length (logicals index) ≡ length index
length-logicals index = length-map index (λ (e : Entry). e.logical)

pub logical-at : (index : List Entry) (k : ℕ) → get_or (logicals index) k 0 ≡ (get_or index k no_entry).logical
logical-at index k = get_or-map (λ (e : Entry). e.logical) index k no_entry

-- ---- entries in bytes

module _ (f : Form) where
  pub length_entries : (xs : List ℕ) (at n : ℕ) → length (entries_at f xs at n) ≡ n
  unfolding entries_at
  length_entries xs at zero = refl
  length_entries xs at (suc n) = ap suc (length_entries xs (at + entry_width f) n)

  pub entry_entries : (xs : List ℕ) (at n k : ℕ) → k < n → get_or (entries_at f xs at n) k no_entry ≡ entry_at f xs (at + entries_width f k)
  unfolding entries_at
  entry_entries xs at zero k h = absurd (omega arith)
  entry_entries xs at (suc n) zero h =
      let e : at ≡ at + entries_width f 0 = omega (arith, entries_none f) in
      ap (entry_at f xs) e
  entry_entries xs at (suc n) (suc k) h =
      let e : at + entry_width f + entries_width f k ≡ at + entries_width f (suc k) = omega (arith, entries_next f k) in
      entry_entries xs (at + entry_width f) n k (omega arith) ∙ ap (entry_at f xs) e

  pub length-logicals_entries : (xs : List ℕ) (at n : ℕ) → length (logicals (entries_at f xs at n)) ≡ n
  length-logicals_entries xs at n = length-logicals (entries_at f xs at n) ∙ length_entries xs at n

  pub logical_entries : (xs : List ℕ) (at n k : ℕ) → k < n
      → get_or (logicals (entries_at f xs at n)) k 0 ≡ number_at 8 xs (at + entries_width f k)
  logical_entries xs at n k h =
      logical-at (entries_at f xs at n) k ∙ ap (λ (e : Entry). e.logical) (entry_entries xs at n k h)

  entries-take : (xs : List ℕ) (m at n : ℕ) → at + entries_width f n ≤ m → entries_at f (take m xs) at n ≡ entries_at f xs at n
  unfolding entries_at
  entries-take xs m at zero h = refl
  entries-take xs m at (suc n) h =
      let w = entries_next f n in
      let l = entry-least f in
      rw (part-take xs m at 8 (omega arith), address-take f xs m (at + 8) (omega arith), page-sum-take f xs m at (omega arith), entries-take xs m (at + entry_width f) n (omega arith))

  -- Bytes laid at or past the end of the entries leave them as they were.
  pub entries-laid : (xs : List ℕ) (to : ℕ) (ys : List ℕ) (at n : ℕ) → to + length ys ≤ length xs → at + entries_width f n ≤ to
      → entries_at f (laid xs to ys) at n ≡ entries_at f xs at n
  entries-laid xs to ys at n fits h =
      sym (entries-take (laid xs to ys) to at n h) ∙ rw (take-laid xs to ys fits to (omega arith)) (entries-take xs to at n h)

  -- ---- entries as bytes

  pub length-entry_bytes : (e : Entry) → length (entry_bytes f e) ≡ entry_width f
  unfolding entry_bytes
  length-entry_bytes e =
      simp (length-append, length-number_bytes) (omega (arith, length-address_bytes f e.physical, length-page_sum_bytes f e.checksum))

  pub length-index_bytes : (index : List Entry) → length (index_bytes f index) ≡ entries_width f (length index)
  unfolding index_bytes
  length-index_bytes [] = omega (arith, entries_none f)
  length-index_bytes (e ∷ index) =
      simp (length-append, length-entry_bytes) (omega (arith, length-index_bytes index, entries_next f (length index)))

  pub index_bytes-append : (index more : List Entry) → index_bytes f (index ++ more) ≡ index_bytes f index ++ index_bytes f more
  unfolding index_bytes
  index_bytes-append [] more = refl
  index_bytes-append (e ∷ index) more = rw (index_bytes-append index more, append_assoc)

-- ---- places

pub either : (t : Bool) → (t ≡ true) ⊎ (t ≡ false)
either true = inl refl
either false = inr refl

-- The first place where a stands.
pub place_hit : (a : ℕ) (xs : List ℕ) (k : ℕ) → k < length xs → get_or xs k 0 ≡ a → ((i : ℕ) → i < k → get_or xs i 0 ≡ a → ⊥) → place_of a xs ≡ k
unfolding place_of
place_hit a [] k h e none = absurd (omega arith)
place_hit a (x ∷ xs) zero h e none = rw (eq-eqb x a e)
place_hit a (x ∷ xs) (suc k) h e none =
    rw (ne_eqb x a (none 0 (omega arith))) (ap suc (place_hit a xs k (omega arith) e (λ i l. none (suc i) (omega arith))))

-- The length, where a stands nowhere.
pub place_miss : (a : ℕ) (xs : List ℕ) → ((i : ℕ) → i < length xs → get_or xs i 0 ≡ a → ⊥) → place_of a xs ≡ length xs
unfolding place_of
place_miss a [] none = refl
place_miss a (x ∷ xs) none =
    rw (ne_eqb x a (none 0 (omega arith))) (ap suc (place_miss a xs (λ i l. none (suc i) (omega arith))))

pub place-within : (a : ℕ) (xs : List ℕ) → place_of a xs ≤ length xs
unfolding place_of
place-within a [] = omega arith
place-within a (x ∷ xs) = ⊎_elim
    (λ t. rw t (omega arith))
    (λ t. rw t (omega (arith, place-within a xs)))
    (either (eqb x a))

pub place_value : (a : ℕ) (xs : List ℕ) → place_of a xs < length xs → get_or xs (place_of a xs) 0 ≡ a
unfolding place_of
place_value a [] h = absurd (omega arith)
place_value a (x ∷ xs) h = ⊎_elim
    (λ t. rw t (eqb-true x a t))
    (λ t. rw t (place_value a xs (omega (arith, rw t at h))))
    (either (eqb x a))

-- What stands in front keeps its place; a page that comes behind the others stands where the search for it ended.
pub place-append : (a : ℕ) (xs ys : List ℕ) → place_of a xs < length xs → place_of a (xs ++ ys) ≡ place_of a xs
unfolding place_of
place-append a [] ys h = absurd (omega arith)
place-append a (x ∷ xs) ys h = ⊎_elim
    (λ t. rw t)
    (λ t. rw t (ap suc (place-append a xs ys (omega (arith, rw t at h)))))
    (either (eqb x a))

pub place_snoc : (a : ℕ) (xs : List ℕ) → place_of a (xs ++ (a ∷ [])) ≡ place_of a xs
unfolding place_of
place_snoc a [] = rw (eq-eqb a a refl)
place_snoc a (x ∷ xs) = rw (place_snoc a xs)

-- ---- what a list has

has_step : (t : Bool) (place n : ℕ) → ltb (cond t 0 (suc place)) (suc n) ≡ t || ltb place n
has_step true place n = lt-ltb 0 (suc n) (omega arith)
has_step false place n = leb-suc-suc (suc place) n

pub has_cons : (x : ℕ) (xs : List ℕ) (a : ℕ) → has (x ∷ xs) a ≡ eqb x a || has xs a
unfolding place_of
has_cons x xs a = has_step (eqb x a) (place_of a xs) (length xs)

pub has_snoc : (xs : List ℕ) (b a : ℕ) → has (xs ++ (b ∷ [])) a ≡ has xs a || eqb b a
unfolding place_of
has_snoc [] b a = has_cons b [] a ∙ or-false (eqb b a)
has_snoc (x ∷ xs) b a = has_cons x (xs ++ (b ∷ [])) a ∙ rw (has_snoc xs b a, has_cons x xs a) (sym (or_assoc (eqb x a) (has xs a) (eqb b a)))

pub has-at : (xs : List ℕ) (k a : ℕ) → k < length xs → get_or xs k 0 ≡ a → has xs a ≡ true
has-at [] k a h e = absurd (omega arith)
has-at (x ∷ xs) zero a h e = has_cons x xs a ∙ rw (eq-eqb x a e)
has-at (x ∷ xs) (suc k) a h e = has_cons x xs a ∙ rw (has-at xs k a (omega arith) e) (or-true (eqb x a))

pub has-nowhere : (xs : List ℕ) (a : ℕ) → ((k : ℕ) → k < length xs → get_or xs k 0 ≡ a → ⊥) → has xs a ≡ false
has-nowhere xs a none = le-ltb (place_of a xs) (length xs) (omega (arith, place_miss a xs none))

pub nowhere : (xs : List ℕ) (a : ℕ) → has xs a ≡ false → (k : ℕ) → k < length xs → get_or xs k 0 ≡ a → ⊥
nowhere xs a h k l e = true≢false (sym (has-at xs k a l e) ∙ h)

-- ---- the entries of a record

-- What a record's check says of each of its entries.
pub record EntryRight (s : Setting) (r : Record) (e : Entry) : Type 0 where
  pub multiple : e.logical % s.form.page ≡ 0
  pub below : e.logical < r.logical
  pub behind_empty : empty_end s.form ≤ e.physical
  pub ahead : e.physical + s.form.page ≤ r.address

-- Of the first of them, and of those behind it.
record FirstRight (s : Setting) (r : Record) (next : ℕ) (e : Entry) (index : List Entry) : Type 0 where
  from : next ≤ e.logical
  right : EntryRight s r e
  rest : entries_right s r (e.logical + 1) index ≡ true

first-right : (s : Setting) (r : Record) (next : ℕ) (e : Entry) (index : List Entry) → entries_right s r next (e ∷ index) ≡ true → FirstRight s r next e index
unfolding entry_right entries_right
first-right s r next e index h =
    let five = (and-eq-true_iff _ _).0 h in
    let four = (and-eq-true_iff _ _).0 five.0 in
    let three = (and-eq-true_iff _ _).0 four.0 in
    let two = (and-eq-true_iff _ _).0 three.0 in
    let one = (and-eq-true_iff _ _).0 two.0 in
    record {
      from = leb-true _ _ one.0;
      right = record {
        multiple = eqb-true _ _ one.1;
        below = ltb-true _ _ two.1;
        behind_empty = leb-true _ _ three.1;
        ahead = leb-true _ _ four.1;
      };
      rest = five.1;
    }

pub entry-right : (s : Setting) (r : Record) (next : ℕ) (index : List Entry) → entries_right s r next index ≡ true
    → (k : ℕ) → k < length index → EntryRight s r (get_or index k no_entry)
entry-right s r next [] h k l = absurd (omega arith)
entry-right s r next (e ∷ index) h zero l = (first-right s r next e index h).right
entry-right s r next (e ∷ index) h (suc k) l = entry-right s r (e.logical + 1) index (first-right s r next e index h).rest k (omega arith)

-- Their logical addresses are at least the next one allowed, and rise.
entry_from : (s : Setting) (r : Record) (next : ℕ) (index : List Entry) → entries_right s r next index ≡ true
    → (k : ℕ) → k < length index → next ≤ get_or (logicals index) k 0
entry_from s r next [] h k l = absurd (omega arith)
entry_from s r next (e ∷ index) h zero l = (first-right s r next e index h).from
entry_from s r next (e ∷ index) h (suc k) l =
    let f = first-right s r next e index h in
    omega (arith, entry_from s r (e.logical + 1) index f.rest k (omega arith), f.from)

pub entries_rise : (s : Setting) (r : Record) (next : ℕ) (index : List Entry) → entries_right s r next index ≡ true
    → Rising (logicals index)
entries_rise s r next [] h i k l m = absurd (omega arith)
entries_rise s r next (e ∷ index) h i zero l m = absurd (omega arith)
entries_rise s r next (e ∷ index) h zero (suc k) l m =
    omega (arith, entry_from s r (e.logical + 1) index (first-right s r next e index h).rest k (omega (arith, length-logicals index)))
entries_rise s r next (e ∷ index) h (suc i) (suc k) l m =
    entries_rise s r (e.logical + 1) index (first-right s r next e index h).rest i k (omega arith) (omega arith)

-- ---- the pages of a session

-- The first of the pages that fit, and those behind it.
pub record FirstFits (p size a : ℕ) (pages : List ℕ) : Type 0 where
  pub alone : has pages a ≡ false
  pub multiple : a % p ≡ 0
  pub below : a < size
  pub rest : pages_fit p size pages ≡ true

pub first_fits : (p size a : ℕ) (pages : List ℕ) → pages_fit p size (a ∷ pages) ≡ true → FirstFits p size a pages
unfolding pages_fit
first_fits p size a pages h =
    let three = (and-eq-true_iff _ _).0 h in
    let two = (and-eq-true_iff _ _).0 three.0 in
    let one = (and-eq-true_iff _ _).0 two.0 in
    record {
      alone = not-true _ one.0;
      multiple = eqb-true _ _ one.1;
      below = ltb-true _ _ two.1;
      rest = three.1;
    }

pub page_fits : (p size : ℕ) (pages : List ℕ) → pages_fit p size pages ≡ true
    → (k : ℕ) → k < length pages → (get_or pages k 0 % p ≡ 0) × (get_or pages k 0 < size)
page_fits p size [] h k l = absurd (omega arith)
page_fits p size (a ∷ pages) h zero l = let f = first_fits p size a pages h in (f.multiple, f.below)
page_fits p size (a ∷ pages) h (suc k) l = page_fits p size pages (first_fits p size a pages h).rest k (omega arith)

pub pages-differ : (p size : ℕ) (pages : List ℕ) → pages_fit p size pages ≡ true → Distinct pages
pages-differ p size [] h i k l m = absurd (omega arith)
pages-differ p size (a ∷ pages) h i zero l m = absurd (omega arith)
pages-differ p size (a ∷ pages) h zero (suc k) l m =
    λ e. nowhere pages a (first_fits p size a pages h).alone k (omega arith) (sym e)
pages-differ p size (a ∷ pages) h (suc i) (suc k) l m =
    pages-differ p size pages (first_fits p size a pages h).rest i k (omega arith) (omega arith)

-- ---- pages touched

-- One page more.
pub touching_snoc : (own pages : List ℕ) (a : ℕ)
    → touching own (pages ++ (a ∷ [])) ≡ cond (has (touching own pages) a) (touching own pages) (touching own pages ++ (a ∷ []))
unfolding touching
touching_snoc own [] a = refl
touching_snoc own (b ∷ pages) a = touching_snoc (cond (has own b) own (own ++ (b ∷ []))) pages a

or_first : (p q : Bool) → p ≡ true → p ≡ p || q
or_first p q h = rw h

has-touched : (own : List ℕ) (b a : ℕ) → has (cond (has own b) own (own ++ (b ∷ []))) a ≡ has own a || eqb b a
has-touched own b a = ⊎_elim
    (λ t. rw t (⊎_elim
    (λ e. or_first (has own a) (eqb b a) (rw (eqb-true b a e) at t))
    (λ e. rw e (sym (or-false (has own a))))
    (either (eqb b a))))
    (λ t. rw t (has_snoc own b a))
    (either (has own b))

pub has-touching : (own pages : List ℕ) (a : ℕ) → has (touching own pages) a ≡ has own a || has pages a
unfolding touching place_of
has-touching own [] a = sym (or-false (has own a))
has-touching own (b ∷ pages) a =
    has-touching (cond (has own b) own (own ++ (b ∷ []))) pages a
    ∙ rw (has-touched own b a, has_cons b pages a, or_assoc)

pub length-touching : (own pages : List ℕ) (a : ℕ)
    → length (touching own (pages ++ (a ∷ []))) ≡ length (touching own pages) + cond (has own a || has pages a) 0 1
length-touching own pages a =
    rw (touching_snoc own pages a, ← has-touching own pages a)
    (⊎_elim (λ t. rw t (omega arith)) (λ t. rw t (length-append (touching own pages) (a ∷ []))) (either (has (touching own pages) a)))

-- ---- an entry put in or put over

-- Two addresses: the one below the other, or the same.
pub order : (a b : ℕ) → (a < b) ⊎ ((a ≡ b) ⊎ (b < a))
order a b = ⊎_elim
    (λ l. inl (ltb-true a b l))
    (λ l. inr (⊎_elim
    (λ m. inr (ltb-true b a m))
    (λ m. inl (omega (arith, ltb-false a b l, ltb-false b a m)))
    (either (ltb b a))))
    (either (ltb a b))

module _ (e x : Entry) (index : List Entry) where
  pub put_before : e.logical < x.logical → put e (x ∷ index) ≡ e ∷ x ∷ index
  unfolding put
  put_before h = rw (lt-ltb _ _ h)

  pub put-over : e.logical ≡ x.logical → put e (x ∷ index) ≡ e ∷ index
  unfolding put
  put-over h =
      let l : x.logical ≤ e.logical = omega arith in
      rw (le-ltb _ _ l, eq-eqb _ _ h)

  pub put-behind : x.logical < e.logical → put e (x ∷ index) ≡ x ∷ put e index
  unfolding put
  put-behind h =
      let l : x.logical ≤ e.logical = omega arith in
      let n : e.logical ≡ x.logical → ⊥ = λ q. omega arith in
      rw (le-ltb _ _ l, ne_eqb _ _ n)

or_swap : (p q r : Bool) → p || (q || r) ≡ q || (p || r)
or_swap true true r = refl
or_swap true false r = refl
or_swap false q r = refl

pub has-put : (e : Entry) (index : List Entry) (a : ℕ) → has_page (put e index) a ≡ eqb e.logical a || has_page index a
unfolding put
has-put e [] a = has_cons e.logical [] a
has-put e (x ∷ index) a = ⊎_elim
    (λ l. rw (put_before e x index l) (has_cons e.logical (logicals (x ∷ index)) a))
    (⊎_elim
    (λ q. rw (put-over e x index q, has_cons e.logical (logicals index) a, has_cons x.logical (logicals index) a, ← q) (sym (or_self_left (eqb e.logical a) (has_page index a))))
    (λ l. rw (put-behind e x index l, has_cons x.logical (logicals (put e index)) a, has_cons x.logical (logicals index) a, has-put e index a) (or_swap (eqb x.logical a) (eqb e.logical a) (has_page index a))))
    (order e.logical x.logical)

-- The entry of a page, at the front and behind it.
pub entry-front : (e : Entry) (index : List Entry) (a : ℕ) → e.logical ≡ a → entry_of (e ∷ index) a ≡ e
unfolding place_of
entry-front e index a h = rw (eq-eqb e.logical a h)

pub entry-behind : (e : Entry) (index : List Entry) (a : ℕ) → (e.logical ≡ a → ⊥) → entry_of (e ∷ index) a ≡ entry_of index a
unfolding place_of
entry-behind e index a n = rw (ne_eqb e.logical a n)

pub entry-put : (e : Entry) (index : List Entry) (a : ℕ) → e.logical ≡ a → entry_of (put e index) a ≡ e
unfolding put
entry-put e [] a h = entry-front e [] a h
entry-put e (x ∷ index) a h = ⊎_elim
    (λ l. rw (put_before e x index l) (entry-front e (x ∷ index) a h))
    (⊎_elim
    (λ q. rw (put-over e x index q) (entry-front e index a h))
    (λ l. rw (put-behind e x index l) (entry-behind x (put e index) a (λ q. omega arith) ∙ entry-put e index a h)))
    (order e.logical x.logical)

pub entry-put_other : (e : Entry) (index : List Entry) (a : ℕ) → (e.logical ≡ a → ⊥) → entry_of (put e index) a ≡ entry_of index a
unfolding put
entry-put_other e [] a n = entry-behind e [] a n
entry-put_other e (x ∷ index) a n = ⊎_elim
    (λ l. rw (put_before e x index l) (entry-behind e (x ∷ index) a n))
    (⊎_elim
    (λ q. rw (put-over e x index q) (entry-behind e index a n ∙ sym (entry-behind x index a (λ z. n (q ∙ z)))))
    (λ l. rw (put-behind e x index l) (⊎_elim
    (λ t. let z = eqb-true x.logical a t in entry-front x (put e index) a z ∙ sym (entry-front x index a z))
    (λ t. let z = eqb-false x.logical a t in entry-behind x (put e index) a z ∙ entry-put_other e index a n ∙ sym (entry-behind x index a z))
    (either (eqb x.logical a)))))
    (order e.logical x.logical)

-- ---- pages put in or put over, one after the other

pub put_all_snoc : (make : ℕ → ℕ → Entry) (i : ℕ) (pages : List ℕ) (a : ℕ) (index : List Entry)
    → put_all make i (pages ++ (a ∷ [])) index ≡ put (make (i + length pages) a) (put_all make i pages index)
unfolding put_all
put_all_snoc make i [] a index = rw add-zero
put_all_snoc make i (b ∷ pages) a index = rw (add-suc, ← suc-add) (put_all_snoc make (suc i) pages a (put (make i b) index))

-- Entries that bear their page's address.
module _ (make : ℕ → ℕ → Entry) (bears : (i a : ℕ) → (make i a).logical ≡ a) where
  pub has-put_all : (i : ℕ) (pages : List ℕ) (index : List Entry) (a : ℕ)
      → has_page (put_all make i pages index) a ≡ has pages a || has_page index a
  unfolding put_all place_of
  has-put_all i [] index a = refl
  has-put_all i (b ∷ pages) index a =
      has-put_all (suc i) pages (put (make i b) index) a
      ∙ rw (has-put (make i b) index a, bears i b, has_cons b pages a, or_assoc) (or_swap (has pages a) (eqb b a) (has_page index a))

  -- What none of the pages replaces stays.
  pub entry-put_all_old : (i : ℕ) (pages : List ℕ) (index : List Entry) (a : ℕ) → has pages a ≡ false
      → entry_of (put_all make i pages index) a ≡ entry_of index a
  unfolding put_all
  entry-put_all_old i [] index a h = refl
  entry-put_all_old i (b ∷ pages) index a h =
      entry-put_all_old (suc i) pages (put (make i b) index) a (has-nowhere pages a (λ k l. nowhere (b ∷ pages) a h (suc k) (omega arith)))
      ∙ entry-put_other (make i b) index a (rw (bears i b) (nowhere (b ∷ pages) a h 0 (omega arith)))

  -- A page that comes no second time behind its place has the entry of that place.
  pub entry-put_all_own : (i : ℕ) (pages : List ℕ) (index : List Entry) (k : ℕ) → k < length pages
      → ((j : ℕ) → k < j → j < length pages → get_or pages k 0 ≡ get_or pages j 0 → ⊥)
      → entry_of (put_all make i pages index) (get_or pages k 0) ≡ make (i + k) (get_or pages k 0)
  unfolding put_all
  entry-put_all_own i [] index k h last = absurd (omega arith)
  entry-put_all_own i (b ∷ pages) index zero h last =
      entry-put_all_old (suc i) pages (put (make i b) index) b (has-nowhere pages b (λ j l q. last (suc j) (omega arith) (omega arith) (sym q)))
      ∙ rw add-zero (entry-put (make i b) index b (bears i b))
  entry-put_all_own i (b ∷ pages) index (suc k) h last =
      rw (add-suc, ← suc-add) (entry-put_all_own (suc i) pages (put (make i b) index) k (omega arith) (λ j l m. last (suc j) (omega arith) (omega arith)))

-- ---- how many there are

-- Which addresses result goes by the addresses alone.
logicals-put : (e f : Entry) (xs ys : List Entry) → e.logical ≡ f.logical → logicals xs ≡ logicals ys → logicals (put e xs) ≡ logicals (put f ys)
unfolding put
logicals-put e f [] [] p q = ap (λ (a : ℕ). a ∷ []) p
logicals-put e f [] (y ∷ ys) p q = let z : ◌≡◌ {A = ℕ} 0 1 = cc in absurd (omega arith)
logicals-put e f (x ∷ xs) [] p q = let z : ◌≡◌ {A = ℕ} 0 1 = cc in absurd (omega arith)
logicals-put e f (x ∷ xs) (y ∷ ys) p q =
    let first : x.logical ≡ y.logical = cc in
    let rest : logicals xs ≡ logicals ys = cc in
    ⊎_elim
    (λ l. rw (put_before e x xs l, put_before f y ys (omega arith)) (cc))
    (⊎_elim
    (λ l. rw (put-over e x xs l, put-over f y ys (omega arith)) (cc))
    (λ l. rw (put-behind e x xs l, put-behind f y ys (omega arith)) (cc (logicals-put e f xs ys p rest))))
    (order e.logical x.logical)

logicals-put_all : (make other : ℕ → ℕ → Entry) → ((i a : ℕ) → (make i a).logical ≡ a) → ((i a : ℕ) → (other i a).logical ≡ a)
    → (i j : ℕ) (pages : List ℕ) (xs ys : List Entry) → logicals xs ≡ logicals ys
    → logicals (put_all make i pages xs) ≡ logicals (put_all other j pages ys)
unfolding put_all
logicals-put_all make other p q i j [] xs ys h = h
logicals-put_all make other p q i j (a ∷ pages) xs ys h =
    logicals-put_all make other p q (suc i) (suc j) pages (put (make i a) xs) (put (other j a) ys)
    (logicals-put (make i a) (other j a) xs ys (p i a ∙ sym (q j a)) h)

pub length-put_all : (make : ℕ → ℕ → Entry) → ((i a : ℕ) → (make i a).logical ≡ a) → (pages : List ℕ) (index : List Entry)
    → length (put_all make 0 pages index) ≡ merged_count index pages
unfolding merged_count
length-put_all make bears pages index =
    sym (length-logicals (put_all make 0 pages index))
    ∙ ap length (logicals-put_all make placeless bears (λ i a. refl) 0 0 pages index index refl)
    ∙ length-logicals (put_all placeless 0 pages index)

pub length_merged : (history : List ℕ) (s : Setting) (st : State) (index : List Entry) → length (merged_index history s st index) ≡ merged_count index (own_pages st)
unfolding merged_index
length_merged history s st index = length-put_all (own_entry history s.form.page st.end) (λ i a. refl) (own_pages st) index

pub count_none : (index : List Entry) → merged_count index [] ≡ length index
unfolding merged_count put_all
count_none index = refl

-- ---- checksums ahead of what is laid

pub sums-laid : (w o : ℕ) (xs : List ℕ) (to : ℕ) (ys : List ℕ) → to + length ys ≤ length xs → 16 ≤ w → o + 4 ≤ w → (at n : ℕ) → at + n * w ≤ to
    → sums_stand w o (laid xs to ys) at n ≡ sums_stand w o xs at n
unfolding sums_stand sum_stands
sums-laid w o xs to ys fits a b at zero h = refl
sums-laid w o xs to ys fits a b at (suc n) h =
    let m = suc-mul n w in
    rw (part-laid-below xs to ys fits (at + o) 4 (omega (arith, m)), part-laid-below xs to ys fits at 16 (omega (arith, m)), sums-laid w o xs to ys fits a b (at + w) n (omega (arith, m)))
