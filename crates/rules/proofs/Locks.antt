-- The lock set and cleared: the header says the same of the history, and all behind it stands. A session that was opened shows its
-- parent's bytes.
use mathlib.Core.Path.{◌≡◌, refl, sym, ◌∙◌}
use mathlib.Core.Bool.{Bool, true, false, not, cond, ◌&&◌, ◌||◌, true≢false}
use mathlib.Core.Logic.{⊎_elim}
use mathlib.Core.List.{List, []}
use Prim.Native.Nat.{ℕ, ◌+◌, ◌≤◌, ◌<◌}
use native.Mathlib.Nat.{zero-mul}
use native.Mathlib.Omega.{arith}
use lib.Dec.{ltb, eqb}
use lib.ListN.{length, get_or}
use borrow.Author.Tests.{ltb-false, leb-false}
use Rattle.rules.specs.Bytes.{part, laid}
use Rattle.rules.specs.Layout.{revision_limit, header_width, header_bytes, setting_with, setting_of, with_lock, committed_end, record_of, count_at}
use Rattle.rules.specs.View.{has, page_of}
use Rattle.rules.specs.Session.{locked, opened}
use Rattle.rules.specs.Rows.{newest, revision_unknown, not_newest, full, whole_wrong, pages_fit}
use Rattle.rules.specs.Calls.{header_rows, asked, revision_index, open_rows}
use Rattle.rules.specs.Moments.{opened_on}
use Rattle.rules.specs.History.{Revision, nothing, laid_on, touched_by}
use Rattle.rules.specs.declared.Setting.{Setting}
use Rattle.rules.specs.declared.State.{State}
use Rattle.rules.proofs.Bytes.{length-laid, part-laid, byte_above}
use Rattle.rules.proofs.Rows.{row-clear, then-clear}
use Rattle.rules.proofs.Places.{end-behind}
use Rattle.rules.proofs.Entries.{has-nowhere}
use Rattle.rules.proofs.Writes.{shown-parent}
use Rattle.rules.proofs.Same.{Same, same-within, count_same}
use Rattle.rules.proofs.Headers.{HeaderFacts, header_facts, WholeFacts, whole_facts, whole_same}
use Rattle.rules.proofs.RoundTrips.{SettingFits, length-header_bytes, header_back}
use Rattle.rules.proofs.Records.{Grown}
use Rattle.rules.proofs.Sessions.{SessionRight, right-session}
use Rattle.rules.proofs.Stored.{logical-right, stored-grown}
use Rattle.rules.proofs.Holds.{Holds, some-page, original-most, same-grown}
use Rattle.rules.proofs.Opened.{Opened}

-- ---- A header laid over the one that stands

module _ (h : List ℕ) (s : Setting) (wide : header_width ≤ length h) where
  header_fits : 0 + length (header_bytes s) ≤ length h
  header_fits = rw (length-header_bytes s) (omega arith)

  pub header-stands : part (laid h 0 (header_bytes s)) 0 header_width ≡ header_bytes s
  header-stands = rw (length-header_bytes s) at (part-laid h 0 (header_bytes s) header_fits)

  pub header-behind : Same header_width (length h) h (laid h 0 (header_bytes s))
  header-behind = record {
    long = length-laid h 0 (header_bytes s) header_fits;
    bytes = λ i a b. byte_above h 0 (header_bytes s) (omega arith) i (rw (length-header_bytes s) (omega arith));
  }

-- What a history says of itself fits in its header.
pub setting_fits : (h : List ℕ) (b : Bool) → HeaderFacts h → WholeFacts (length h) (setting_of h) → SettingFits (with_lock b (setting_of h))
unfolding setting_of setting_with
setting_fits h b f g = record {
  page = f.allowed;
  original = f.original;
  address = omega (arith, f.short, g.ends, end-behind (setting_of h).form (setting_of h).address (setting_of h).size);
  size = omega (arith, f.short, g.ends, end-behind (setting_of h).form (setting_of h).address (setting_of h).size);
}

count-stands : (h : List ℕ) → count_at h (setting_of h).address ≡ (setting_of h).count
unfolding setting_of setting_with
count-stands h = refl

whole_lock : (h : List ℕ) (b : Bool) (s : Setting) → whole_wrong h (with_lock b s) ≡ whole_wrong h s
unfolding whole_wrong
whole_lock h b s = refl

module _ {original : List ℕ} {p : ℕ} {h : List ℕ} {vs : List Revision} (w : Holds original p h vs) (b : Bool) where
  abbrev s : Setting
  s = setting_of h

  abbrev h' : List ℕ
  h' = laid h 0 (header_bytes (with_lock b s))

  first : HeaderFacts h
  first = header_facts h w.header

  facts : WholeFacts (length h) s
  facts = whole_facts h s w.whole

  far : (header_width ≤ s.address) × (s.address + s.size ≤ length h)
  far = (omega (arith, facts.behind, end-behind s.form 0 header_width), omega (arith, facts.ends, end-behind s.form s.address s.size))

  pub lock-behind : Same header_width (length h) h h'
  lock-behind = header-behind h (with_lock b s) first.front

  back : (header_rows h' ≡ 0) × (count_at h' s.address ≡ s.count → setting_of h' ≡ with_lock b s)
  back = header_back h' (with_lock b s) (header-stands h (with_lock b s) first.front) (rw lock-behind.long first.front) (rw lock-behind.long first.short) (setting_fits h b first facts)

  pub lock-setting : setting_of h' ≡ with_lock b s
  lock-setting = back.1 (count_same lock-behind s.address far.0 (omega (arith, far.1, facts.sized)) ∙ count-stands h)

  pub lock-holds : Holds original p h' vs
  lock-holds =
      let g : Grown h s h' (with_lock b s) = same-grown s (with_lock b s) refl refl refl facts.sized far.0 (same-within header_width (s.address + s.size) lock-behind (omega arith) far.1) in
      record {
        header = back.0;
        whole = rw lock-setting (whole_lock h' b s ∙ whole_same s (same-within s.address (s.address + s.size) lock-behind far.0 far.1) facts.sized ∙ w.whole);
        lent = rw lock-setting w.lent;
        page = rw lock-setting w.page;
        counted = rw lock-setting w.counted;
        stored = λ k l. rw lock-setting (stored-grown g original k (get_or vs k nothing) (some-page w) (omega (arith, w.counted)) (w.stored k l));
      }

-- ---- Opening

-- The revision that is meant stands in the history.
pub asked-stands : (s : Setting) (revision : ℕ) → revision_unknown s revision ≡ false → asked s revision ≤ s.count
unfolding revision_unknown asked
asked-stands s revision h = go (ltb s.count revision) (eqb revision newest) refl refl h
  where
    go : (above new : Bool) → ltb s.count revision ≡ above → eqb revision newest ≡ new → above && not new ≡ false
        → cond (eqb revision newest) s.count revision ≤ s.count
    go above true p q e = rw q (omega arith)
    go true false p q e = absurd (true≢false e)
    go false false p q e = rw q (ltb-false s.count revision p)

-- Row 12 leaves what row 13 asks.
newest_or : (branching same : Bool) → not branching && not same ≡ false → branching || same ≡ true
newest_or true same e = refl
newest_or false true e = refl
newest_or false false e = absurd (true≢false e)

module _ {original : List ℕ} {p : ℕ} {h : List ℕ} {vs : List Revision} (w : Holds original p h vs) (revision : ℕ) (passes : open_rows original h revision ≡ 0) where
  abbrev on : Setting
  on = setting_of h

  abbrev k : ℕ
  k = asked on revision

  abbrev st : State
  st = opened on k (record_of h on k).logical

  record Openable : Type 0 where
    stands : k ≤ on.count
    newest : on.branching || eqb k on.count ≡ true
    few : on.count < revision_limit

  openable : Openable
  unfolding open_rows not_newest full
  openable =
      let a = then-clear _ _ passes in
      let b = then-clear _ _ a.1 in
      let c = then-clear _ _ b.1 in
      let d = then-clear _ _ c.1 in
      let e = then-clear _ _ d.1 in
      record {
        stands = asked-stands on revision (row-clear 6 _ (omega arith) b.0);
        newest = newest_or on.branching (eqb k on.count) (row-clear 12 _ (omega arith) d.0);
        few = leb-false _ _ (row-clear 18 _ (omega arith) e.0);
      }

  known : k < length vs
  known = omega (arith, openable.stands, w.counted)

  new_fits : SessionRight (length (locked h on)) (with_lock true on) st
  unfolding locked pages_fit
  new_fits = record {
    locked = refl;
    end = refl;
    count = refl;
    few = openable.few;
    parent = openable.stands;
    newest = openable.newest;
    touched = omega arith;
    small = (logical-right h on k (w.stored k known).rows (original-most w)).1;
    room = rw (lock-behind w true).long (omega (arith, zero-mul on.form.page, (facts w true).ends));
    pages = refl;
  }

  pub opened-opens : Opened original p (locked h on) vs st (opened_on k (committed_end on))
  unfolding locked laid_on touched_by
  opened-opens =
      let e = lock-setting w true in
      let before = w.stored k known in
      let after = (lock-holds w true).stored k known in
      record {
        right = rw e (right-session (length (locked h on)) (with_lock true on) st new_fits);
        parent = refl;
        began = refl;
        slots = refl;
        grown = omega (arith, before.size);
        size = before.size;
        own = refl;
        shown = λ i side. ⊎_elim
            (λ (l : i < st.size).
            shown-parent original (setting_of (locked h on)).form.page (revision_index (locked h on) (setting_of (locked h on)) k) st.end (locked h on) [] i (has-nowhere [] _ (λ j m z. omega arith))
            ∙ after.shown i (omega (arith, before.size)))
            (λ (t : has [] (page_of p i) ≡ true). absurd (true≢false (sym t ∙ has-nowhere [] _ (λ j m z. omega arith))))
            side;
      }
