-- The merged index is the one worked out afresh: both have the same entry for every page, and both rise.
use mathlib.Core.Path.{◌≡◌, refl, sym, ap, ◌∙◌}
use mathlib.Core.Bool.{true, false, cond, ◌||◌}
use mathlib.Core.Logic.{⊎_elim}
use mathlib.Core.List.{List, [], ◌∷◌}
use Prim.Native.Nat.{ℕ, zero, suc, ◌+◌, ◌*◌, ◌-◌, ◌/◌, ◌%◌, ◌≤◌, ◌<◌}
use native.Mathlib.Nat.{add-zero, zero-add, suc-mul, zero-mul, mul-le-mul_right, add-mod_right, zero-mod, zero-div, div-add-mod', mod-lt}
use native.Mathlib.Omega.{arith}
use lib.ListN.{length, get_or}
use borrow.Author.Tests.{ltb-true, eq-eqb, ne_eqb}
use Rattle.rules.specs.Orders.{Rising, Distinct}
use Rattle.rules.specs.Layout.{limit}
use Rattle.rules.specs.View.{place_of, has, no_entry, logicals, has_page, entry_of, own_pages, pages_in}
use Rattle.rules.specs.Session.{put, put_all, own_entry, merged_index}
use Rattle.rules.specs.declared.Setting.{Setting}
use Rattle.rules.specs.declared.Entry.{Entry}
use Rattle.rules.specs.declared.State.{State}
use Rattle.rules.proofs.Entries.{either, order, place_value, has_cons, put_before, put-over, put-behind, entry-front, entry-behind, has-put_all, entry-put_all_old, entry-put_all_own}
use Rattle.rules.proofs.Rising.{RisingFrom, from_front}
use Rattle.rules.proofs.Range.{multiples, pages_some, pages_order}
use Rattle.rules.specs.History.{Brought, Revision, entry_afresh, entries_afresh, index_afresh}

-- ---- an index, page after page

module _ (p : ℕ) (some : 0 < p) where
  -- The first entry of an index: its own page, and other pages.
  first-page : (e : Entry) (index : List Entry) (a : ℕ) → e.logical ≡ a → entry_afresh p (e ∷ index) [] a ≡ e ∷ []
  unfolding entry_afresh
  first-page e index a h = rw (has_cons e.logical (logicals index) a, eq-eqb e.logical a h, entry-front e index a h)

  other-page : (e : Entry) (index : List Entry) (a : ℕ) → (e.logical ≡ a → ⊥) → entry_afresh p (e ∷ index) [] a ≡ entry_afresh p index [] a
  unfolding entry_afresh
  other-page e index a h = rw (has_cons e.logical (logicals index) a, ne_eqb e.logical a h, entry-behind e index a h)

  -- Pages ahead of the first entry, and behind it.
  page-ahead : (index : List Entry) (next a : ℕ) → RisingFrom next (logicals index) → a < next → entry_afresh p index [] a ≡ []
  unfolding entry_afresh place_of
  page-ahead [] next a r l = refl
  page-ahead (e ∷ index) next a r l =
      other-page e index a (λ q. omega (arith, r.0)) ∙ page-ahead index (e.logical + 1) a r.1 (omega (arith, r.0))

  pages-behind : (e : Entry) (index : List Entry) (m a : ℕ) → e.logical < a → entries_afresh p (e ∷ index) [] a m ≡ entries_afresh p index [] a m
  unfolding entries_afresh
  pages-behind e index zero a l = refl
  pages-behind e index (suc m) a l = rw (other-page e index a (λ q. omega arith), pages-behind e index m (a + p) (omega arith))

  pages_empty : (m a : ℕ) → entries_afresh p [] [] a m ≡ []
  unfolding entries_afresh entry_afresh place_of
  pages_empty zero a = refl
  pages_empty (suc m) a = pages_empty m (a + p)

  -- Entries whose pages lie at multiples of the page size below an end.
  abbrev Paged : ℕ → List Entry → Type 0
  Paged end index = (k : ℕ) → k < length index → ((get_or index k no_entry).logical % p ≡ 0) × ((get_or index k no_entry).logical < end)

  -- Multiples that are above a multiple are a page above it.
  raised : (a : ℕ) (index : List Entry) (end : ℕ) → a % p ≡ 0 → Paged end index → RisingFrom (a + 1) (logicals index) → RisingFrom (a + p) (logicals index)
  raised a [] end m q r = tt
  raised a (e ∷ index) end m q r = (multiples p a e.logical m (q 0 (omega arith)).0 (omega (arith, r.0)), r.1)

  listed : (m a : ℕ) (index : List Entry) → a % p ≡ 0 → RisingFrom a (logicals index) → Paged (a + m * p) index
      → index ≡ entries_afresh p index [] a m
  unfolding entries_afresh
  listed zero a [] z r q = refl
  listed zero a (e ∷ index) z r q = absurd (omega (arith, r.0, (q 0 (omega arith)).1, zero-mul p))
  listed (suc m) a [] z r q = sym (pages_empty (suc m) a)
  listed (suc m) a (e ∷ index) z r q =
      let end : a + p + m * p ≡ a + suc m * p = omega (arith, suc-mul m p) in
      let y : (a + p) % p ≡ 0 = add-mod_right a p ∙ z in
      ⊎_elim
      (λ (l : e.logical < a). absurd (omega (arith, r.0)))
      (⊎_elim
      (λ (h : e.logical ≡ a).
      let rest : Paged (a + p + m * p) index = rw end (λ k l. q (suc k) (omega arith)) in
      rw (first-page e index a h, pages-behind e index m (a + p) (omega arith))
      (ap (λ (xs : List Entry). e ∷ xs) (listed m (a + p) index y (raised a index (a + p + m * p) z rest (rw h at r.1)) rest)))
      (λ (l : a < e.logical).
      let rise : RisingFrom (a + 1) (logicals (e ∷ index)) = (omega arith, r.1) in
      let all : Paged (a + p + m * p) (e ∷ index) = rw end q in
      rw (page-ahead (e ∷ index) (a + 1) a rise (omega arith))
      (listed m (a + p) (e ∷ index) y (raised a (e ∷ index) (a + p + m * p) z all rise) all)))
      (order e.logical a)

  -- What has the same entry for each page lists the same.
  same-pages : (given given' : List Entry) (line line' : List Brought) → ((a : ℕ) → entry_afresh p given line a ≡ entry_afresh p given' line' a)
      → (m a : ℕ) → entries_afresh p given line a m ≡ entries_afresh p given' line' a m
  unfolding entries_afresh
  same-pages given given' line line' e zero a = refl
  same-pages given given' line line' e (suc m) a = rw (e a, same-pages given given' line line' e m (a + p))

  -- An address below an end lies in one of the pages up to it.
  in-pages : (x end : ℕ) → x < end → x < 0 + pages_in p 0 end * p
  in-pages x end l =
      let back : x + (0 + (end - 1) - x) ≡ 0 + (end - 1) = omega arith in
      let y : x / p ≤ (0 + (end - 1)) / p = rw back at (pages_order p x (0 + (end - 1) - x) some) in
      let c = pages_some p 0 end (λ z. omega arith) in
      let n : suc (x / p) ≤ pages_in p 0 end = omega (arith, zero-div p) in
      let m : suc (x / p) * p ≤ pages_in p 0 end * p = mul-le-mul_right p n in
      omega (arith, suc-mul (x / p) p, div-add-mod' x p, mod-lt x some)

  -- So an index that has for every page the entry worked out is the index worked out.
  pub index_afresh_lem : (index : List Entry) (v : Revision) → Rising (logicals index) → Paged limit index
      → ((a : ℕ) → entry_afresh p index [] a ≡ entry_afresh p v.given v.line a) → index ≡ index_afresh p v
  index_afresh_lem index v r q e =
      listed (pages_in p 0 limit) 0 index (zero-mod p) (from_front 0 (logicals index) r (λ k l. omega arith)) (λ k l. ((q k l).0, in-pages (get_or index k no_entry).logical limit (q k l).1))
      ∙ same-pages index v.given [] v.line e (pages_in p 0 limit) 0

-- ---- the merged index

-- Its entry for a page: of the session where the page is its own, else the parent's.
module _ (h : List ℕ) (s : Setting) (st : State) (index : List Entry) (differ : Distinct (own_pages st)) where
  abbrev own : List ℕ
  own = own_pages st

  abbrev made : ℕ → ℕ → Entry
  made = own_entry h s.form.page st.end

  pub has_merged : (a : ℕ) → has_page (merged_index h s st index) a ≡ has own a || has_page index a
  unfolding merged_index
  has_merged a = has-put_all made (λ i b. refl) 0 own index a

  pub entry_merged_own : (a : ℕ) → has own a ≡ true → entry_of (merged_index h s st index) a ≡ made (place_of a own) a
  unfolding merged_index
  entry_merged_own a t =
      let k : place_of a own < length own = ltb-true _ _ t in
      let e : get_or own (place_of a own) 0 ≡ a = place_value a own k in
      rw (e, zero-add) at (entry-put_all_own made (λ i b. refl) 0 own index (place_of a own) k (λ j l m. differ (place_of a own) j l m))

  pub entry_merged_old : (a : ℕ) → has own a ≡ false → entry_of (merged_index h s st index) a ≡ entry_of index a
  unfolding merged_index
  entry_merged_old a t = entry-put_all_old made (λ i b. refl) 0 own index a t

  pub merged-page : (p a : ℕ) → entry_afresh p (merged_index h s st index) [] a ≡ cond (has own a) (made (place_of a own) a ∷ []) (entry_afresh p index [] a)
  unfolding entry_afresh
  merged-page p a = ⊎_elim
      (λ (t : has own a ≡ true). rw (has_merged a, entry_merged_own a t, t))
      (λ (t : has own a ≡ false). rw (has_merged a, entry_merged_old a t, t))
      (either (has own a))

-- What holds of the session's entries and of the parent's holds of all.
put-all : (P : Entry → Type 0) (e : Entry) (index : List Entry) → P e → ((k : ℕ) → k < length index → P (get_or index k no_entry))
    → (k : ℕ) → k < length (put e index) → P (get_or (put e index) k no_entry)
unfolding put
put-all P e [] here all zero l = here
put-all P e [] here all (suc k) l = absurd (omega arith)
put-all P e (x ∷ index) here all k l = ⊎_elim
    (λ (o : e.logical < x.logical). rw (put_before e x index o) (front k (rw (put_before e x index o) at l)))
    (⊎_elim
    (λ (o : e.logical ≡ x.logical). rw (put-over e x index o) (over k (rw (put-over e x index o) at l)))
    (λ (o : x.logical < e.logical). rw (put-behind e x index o) (behind (put-all P e index here (λ j m. all (suc j) (omega arith))) k (rw (put-behind e x index o) at l))))
    (order e.logical x.logical)
  where
    front : (k : ℕ) → k < length (e ∷ x ∷ index) → P (get_or (e ∷ x ∷ index) k no_entry)
    front zero l = here
    front (suc k) l = all k (omega arith)

    over : (k : ℕ) → k < length (e ∷ index) → P (get_or (e ∷ index) k no_entry)
    over zero l = here
    over (suc k) l = all (suc k) (omega arith)

    behind : ((k : ℕ) → k < length (put e index) → P (get_or (put e index) k no_entry)) → (k : ℕ) → k < length (x ∷ put e index) → P (get_or (x ∷ put e index) k no_entry)
    behind rest zero l = all 0 (omega arith)
    behind rest (suc k) l = rest k (omega arith)

pub put_all-all : (P : Entry → Type 0) (make : ℕ → ℕ → Entry) (i : ℕ) (pages : List ℕ) (index : List Entry)
    → ((k : ℕ) → k < length pages → P (make (i + k) (get_or pages k 0))) → ((k : ℕ) → k < length index → P (get_or index k no_entry))
    → (k : ℕ) → k < length (put_all make i pages index) → P (get_or (put_all make i pages index) k no_entry)
unfolding put_all
put_all-all P make i [] index new old = old
put_all-all P make i (a ∷ pages) index new old =
    put_all-all P make (suc i) pages (put (make i a) index)
    (λ k l. let e : suc i + k ≡ i + suc k = omega arith in rw e (new (suc k) (omega arith)))
    (put-all P (make i a) index (rw add-zero at (new 0 (omega arith))) old)
