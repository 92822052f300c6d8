-- A history whose revisions stand as they were worked out: it reads so, and the whole check accepts it.
use mathlib.Core.Path.{◌≡◌, refl, sym, ap, ◌∙◌}
use mathlib.Core.Bool.{true, false, not, ◌&&◌, and-false}
use mathlib.Core.Logic.{◌⊎◌, ⊎_elim}
use mathlib.Core.List.{List, [], ◌∷◌}
use Prim.Native.Nat.{ℕ, zero, suc, ◌+◌, ◌≤◌, ◌<◌}
use native.Mathlib.Omega.{arith}
use lib.ListN.{length, get_or}
use borrow.Author.Tests.{le-ltb, eq-eqb, ne_eqb, ltb-true}
use Rattle.rules.specs.Bytes.{part}
use Rattle.rules.specs.Layout.{limit, revision_limit, header_width, setting_with, setting_of, committed_end, whole_size, location_at}
use Rattle.rules.specs.View.{place_of, has, no_entry, logicals, has_page, entry_of, pages_shared}
use Rattle.rules.specs.Rows.{newest, revision_unknown, original_wrong, whole_wrong, page_sum_wrong, page_wrong, pages_wrong, read_outside}
use Rattle.rules.specs.Calls.{row, ◌then◌, accepted, header_rows, history_rows, both_rows, record_rows, asked, revision_index, revision_rows, read_rows, read_bytes, read, fault, check_entries, check_revisions, check}
use Rattle.rules.specs.History.{Revision, nothing, index_afresh, Stands}
use Rattle.rules.specs.declared.Setting.{Setting}
use Rattle.rules.specs.declared.Entry.{Entry}
use Rattle.rules.specs.declared.Checked.{Checked}
use Rattle.rules.proofs.Bytes.{part-tabulate, tabulate-same}
use Rattle.rules.proofs.Rows.{row-clear, then-clear}
use Rattle.rules.proofs.Places.{end-behind}
use Rattle.rules.proofs.Entries.{length-logicals, either, order}
use Rattle.rules.proofs.Same.{Same, same-within, part_same}
use Rattle.rules.proofs.Records.{Grown}
use Rattle.rules.proofs.Headers.{page-least, header_facts, WholeFacts, whole_facts, header-same, whole_same, setting_same}
use Rattle.rules.proofs.Afresh.{index_afresh_lem}
use Rattle.rules.proofs.Stored.{index-right, logical-right, Stored, stored-grown}

pub record Holds (original : List ℕ) (p : ℕ) (h : List ℕ) (vs : List Revision) : Type 0 where
  pub header : header_rows h ≡ 0
  pub whole : whole_wrong h (setting_of h) ≡ false
  pub lent : (setting_of h).original ≡ length original
  pub page : (setting_of h).form.page ≡ p
  pub counted : (setting_of h).count + 1 ≡ length vs
  pub stored : (k : ℕ) → k < length vs → Stored original h (setting_of h) k (get_or vs k nothing)

-- ---- Rows that pass

pub both_pass : (original h : List ℕ) → header_rows h ≡ 0 → (setting_of h).original ≡ length original → whole_wrong h (setting_of h) ≡ false → both_rows original h (setting_of h) ≡ 0
unfolding both_rows original_wrong row ◌then◌
both_pass original h a b c = rw (a, eq-eqb (length original) (setting_of h).original (sym b), c)

-- No page is wrong where no entry's is.
pub pages_pass : (own h : List ℕ) (p : ℕ) (index : List Entry) → ((j : ℕ) → j < length index → page_sum_wrong h p (get_or index j no_entry) ≡ false)
    → (pages : List ℕ) → pages_wrong own h p index pages ≡ false
unfolding pages_wrong page_wrong
pages_pass own h p index right [] = refl
pages_pass own h p index right (a ∷ pages) =
    rw (page (either (has_page index a)), and-false (not (has own a))) (pages_pass own h p index right pages)
  where
    page : (has_page index a ≡ true) ⊎ (has_page index a ≡ false) → has_page index a && page_sum_wrong h p (entry_of index a) ≡ false
    page = ⊎_elim
        (λ (t : has_page index a ≡ true).
        let k : place_of a (logicals index) < length index = rw (length-logicals index) at (ltb-true (place_of a (logicals index)) (length (logicals index)) t) in
        rw (t, right (place_of a (logicals index)) k))
        (λ (t : has_page index a ≡ false). rw t)

-- A number up to the count asks for the revision itself.
pub asked-known : (s : Setting) (k : ℕ) → k ≤ s.count → s.count ≤ revision_limit → (asked s k ≡ k) × (revision_unknown s k ≡ false)
unfolding asked revision_unknown
asked-known s k l m = (rw (ne_eqb k newest (λ e. omega arith)), rw (le-ltb s.count k l))

-- ---- Reading

module _ {original : List ℕ} {p : ℕ} {h : List ℕ} {vs : List Revision} (w : Holds original p h vs) where
  abbrev s : Setting
  s = setting_of h

  pub some-page : 0 < s.form.page
  unfolding setting_of setting_with
  some-page = omega (arith, page-least s.form.page (header_facts h w.header).allowed)

  pub original-most : s.original ≤ limit
  unfolding setting_of setting_with
  original-most = (header_facts h w.header).original

  facts : WholeFacts (length h) s
  facts = whole_facts h s w.whole

  module _ (k : ℕ) (known : k < length vs) where
    abbrev v : Revision
    v = get_or vs k nothing

    z : Stored original h s k v
    z = w.stored k known

    below : k ≤ s.count
    below = omega (arith, w.counted)

    asks : (asked s k ≡ k) × (revision_unknown s k ≡ false)
    asks = asked-known s k below facts.few

    module _ (at n : ℕ) (inside : at + n ≤ length v.bytes) where
      read_passes : read_rows original h k at n ≡ 0
      unfolding read_rows revision_rows read_outside row ◌then◌
      read_passes =
          rw (
            both_pass original h w.header w.lent w.whole,
            asks.1,
            asks.0,
            z.rows,
            z.size,
            le-ltb (length v.bytes) (at + n) inside,
            pages_pass [] h s.form.page (revision_index h s k) z.sums (pages_shared s.form.page at n),
          )

      read_gives : read_bytes original h k at n ≡ part v.bytes at n
      unfolding read_bytes
      read_gives =
          rw asks.0 (tabulate-same n _ _ (λ j l. z.shown (at + j) (omega arith)) ∙ sym (part-tabulate v.bytes at n inside))

    pub read-stands : Stands original h k v.bytes (index_afresh p v)
    unfolding read
    read-stands = record {
      size = z.size;
      reads = λ at out l. rw (read_passes at (length out) l, read_gives at (length out) l);
      indexed =
          let x = index-right h s k z.rows in
          let most = (logical-right h s k z.rows original-most).1 in
          index_afresh_lem s.form.page some-page (revision_index h s k) v x.rises (λ j l. ((x.right j l).multiple, omega (arith, (x.right j l).below, most))) z.pages
          ∙ ap (λ (q : ℕ). index_afresh q v) w.page;
    }

-- ---- The whole check

-- It passes the pages of an index, and goes on.
entries_pass : (h : List ℕ) (p k j : ℕ) (index : List Entry) (after : Checked) → ((i : ℕ) → i < length index → page_sum_wrong h p (get_or index i no_entry) ≡ false)
    → check_entries h p k j index after ≡ after
unfolding check_entries
entries_pass h p k j [] after right = refl
entries_pass h p k j (e ∷ index) after right =
    rw (right 0 (omega arith)) (entries_pass h p k (suc j) index after (λ i l. right (suc i) (omega arith)))

module _ (h : List ℕ) (s : Setting) where
  -- What it asks of a revision.
  abbrev Passes : ℕ → Type 0
  Passes k = (record_rows h s k ≡ 0) × ((i : ℕ) → i < length (revision_index h s k) → page_sum_wrong h s.form.page (get_or (revision_index h s k) i no_entry) ≡ false)

  revisions_pass : (m k : ℕ) → ((i : ℕ) → k ≤ i → i < k + m → Passes i) → check_revisions h s k m ≡ fault 0 0 0
  unfolding check_revisions
  revisions_pass zero k right = refl
  revisions_pass (suc m) k right =
      let here = right k (omega arith) (omega arith) in
      rw here.0 (entries_pass h s.form.page k 0 (revision_index h s k) _ here.1 ∙ revisions_pass m (suc k) (λ i l n. right i (omega arith) (omega arith)))

pub check-holds : {original : List ℕ} {p : ℕ} {h : List ℕ} {vs : List Revision} → Holds original p h vs → check h ≡ fault 0 0 0
unfolding check history_rows row ◌then◌
check-holds {h = h} w =
    rw (w.header, w.whole)
    (revisions_pass h (setting_of h) (setting_of h).count 1 (λ i l m. let z = w.stored i (omega (arith, w.counted)) in (z.rows, z.sums)))

-- What it accepts has passed.
entries_passed : (h : List ℕ) (p k j : ℕ) (index : List Entry) (after : Checked) → check_entries h p k j index after ≡ fault 0 0 0
    → ((i : ℕ) → i < length index → page_sum_wrong h p (get_or index i no_entry) ≡ false) × (after ≡ fault 0 0 0)
unfolding check_entries
entries_passed h p k j [] after e = (λ i l. absurd (omega arith), e)
entries_passed h p k j (x ∷ index) after e = ⊎_elim
    (λ (t : page_sum_wrong h p x ≡ true). let n : ◌≡◌ {A = ℕ} 9 0 = ap (λ (c : Checked). c.number) (rw t at e) in absurd (omega arith))
    (λ (t : page_sum_wrong h p x ≡ false).
    let rest = entries_passed h p k (suc j) index after (rw t at e) in
    (each t rest.0, rest.1))
    (either (page_sum_wrong h p x))
  where
    each : page_sum_wrong h p x ≡ false → ((i : ℕ) → i < length index → page_sum_wrong h p (get_or index i no_entry) ≡ false)
        → (i : ℕ) → i < length (x ∷ index) → page_sum_wrong h p (get_or (x ∷ index) i no_entry) ≡ false
    each t rest zero l = t
    each t rest (suc i) l = rest i (omega arith)

-- A number that is not 0 is the answer.
no-fault : (n k : ℕ) (after : Checked) → accepted n after (fault n k 0) ≡ fault 0 0 0 → (n ≡ 0) × (after ≡ fault 0 0 0)
no-fault zero k after e = (refl, e)
no-fault (suc n) k after e = let m : suc n ≡ 0 = ap (λ (c : Checked). c.number) e in absurd (omega arith)

revisions_passed : (h : List ℕ) (s : Setting) (m k : ℕ) → check_revisions h s k m ≡ fault 0 0 0 → (i : ℕ) → k ≤ i → i < k + m → Passes h s i
unfolding check_revisions
revisions_passed h s zero k e i l n = absurd (omega arith)
revisions_passed h s (suc m) k e i l n =
    let here = no-fault (record_rows h s k) k _ e in
    let pages = entries_passed h s.form.page k 0 (revision_index h s k) _ here.1 in
    ⊎_elim
    (λ (q : i ≡ k). rw q (here.0, pages.0))
    (λ (o : k < i). revisions_passed h s m (suc k) pages.1 i (omega arith) (omega arith))
    (eq_or-above i k l)
  where
    eq_or-above : (i k : ℕ) → k ≤ i → (i ≡ k) ⊎ (k < i)
    eq_or-above i k l = ⊎_elim (λ (o : i < k). absurd (omega arith)) (λ z. z) (order i k)

pub check_passed : (h : List ℕ) → check h ≡ fault 0 0 0
    → (header_rows h ≡ 0) × (whole_wrong h (setting_of h) ≡ false) × ((k : ℕ) → 1 ≤ k → k ≤ (setting_of h).count → Passes h (setting_of h) k)
unfolding check history_rows
check_passed h e =
    let a = no-fault (history_rows h (setting_of h)) 0 _ e in
    let rows = then-clear _ _ a.0 in
    (rows.0, row-clear 5 _ (omega arith) rows.1, λ k l m. revisions_passed h (setting_of h) (setting_of h).count 1 a.1 k l (omega arith))

-- ---- As the history goes on

-- With the same locations at the same place.
pub same-grown : {h h' : List ℕ} (s s' : Setting) → s'.form ≡ s.form → s'.original ≡ s.original → s'.address ≡ s.address → s.size ≡ whole_size s.count
    → header_width ≤ s.address → Same header_width (s.address + s.size) h h' → Grown h s h' s'
same-grown {h} {h'} s s' f o a z l w = record {
  form = f;
  original = o;
  ahead = omega arith;
  same = same-within header_width s.address w (omega arith) (omega arith);
  located = λ k low high. rw a (part_same w (location_at s k) 16 (omega arith) (omega arith));
}

-- Bytes change behind the committed end alone.
module _ {original : List ℕ} {p : ℕ} {h h' : List ℕ} {vs : List Revision} (w : Holds original p h vs) (same : Same 0 (committed_end (setting_of h)) h h') where
  end_far : (header_width ≤ (setting_of h).address) × ((setting_of h).address + (setting_of h).size ≤ committed_end (setting_of h))
  end_far =
      let s : Setting = setting_of h in
      let f = whole_facts h s w.whole in
      (omega (arith, f.behind, end-behind s.form 0 header_width), end-behind s.form s.address s.size)

  pub same-setting : setting_of h' ≡ setting_of h
  same-setting = let f = whole_facts h (setting_of h) w.whole in setting_same same (omega (arith, end_far)) (omega (arith, end_far, f.sized))

  pub grown-behind : Grown h (setting_of h) h' (setting_of h)
  grown-behind =
      let s : Setting = setting_of h in
      let f = whole_facts h s w.whole in
      same-grown s s refl refl refl f.sized end_far.0 (same-within header_width (s.address + s.size) same (omega arith) end_far.1)

  pub holds-behind : Holds original p h' vs
  holds-behind =
      let s : Setting = setting_of h in
      let f = whole_facts h s w.whole in
      let e = end_far in
      record {
        header = header-same same (omega arith) ∙ w.header;
        whole = rw same-setting (whole_same s (same-within s.address (s.address + s.size) same (omega arith) e.1) f.sized ∙ w.whole);
        lent = rw same-setting w.lent;
        page = rw same-setting w.page;
        counted = rw same-setting w.counted;
        stored = λ k l. rw same-setting (stored-grown grown-behind original k (get_or vs k nothing) (some-page w) (omega (arith, w.counted)) (w.stored k l));
      }
