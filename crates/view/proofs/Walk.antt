-- The index walked beside a buffer: where the walk begins, and what each of its steps shows.
use mathlib.Core.Path.{◌≡◌, sym, ap, ◌∙◌}
use mathlib.Core.List.{List}
use mathlib.Core.Logic.{⊎_elim}
use Prim.Native.Nat.{ℕ, ◌+◌, ◌-◌, ◌%◌, ◌≤◌, ◌<◌, min}
use native.Mathlib.Nat.{div-add-mod', mod-lt, eq-or-lt_of_le, add-zero, add_assoc}
use native.Mathlib.Omega.{arith}
use lib.ListN.{length, get_or}
use Rattle.rules.specs.Bytes.{part, laid, tabulate}
use Rattle.rules.specs.Layout.{entries_width, entry_at, entries_in}
use Rattle.rules.specs.View.{place_of, logicals, page_of, revision_byte}
use Rattle.rules.specs.declared.Index.{Index}
use Rattle.rules.specs.declared.Entry.{Entry}
use Rattle.rules.proofs.Bytes.{tabulate-same}
use Rattle.rules.proofs.Entries.{has-nowhere, place_hit, order}
use Rattle.rules.proofs.Range.{page-at, page-multiple, multiples}
use Rattle.index.specs.Places.{Parted}
use Rattle.view.specs.Seen.{Seen, original_byte}
use Rattle.view.specs.Places.{NextStored}
use Rattle.view.specs.declared.View.{View}
use Rattle.view.proofs.Pages.{page_size, addresses, length_addresses, entry-room}
use Rattle.view.proofs.Shown.{revision, shown-stored, ShownSoFar, shown-start, shown_turn, shown_further}

-- ---- The walk

-- The pages ahead of a place end at or ahead of an offset, those from it on end behind it.
pub record Ahead (xs : List ℕ) (p at place : ℕ) : Type 0 where
  pub below : (k : ℕ) → k < place → k < length xs → get_or xs k 0 + p ≤ at
  pub above : (k : ℕ) → place ≤ k → k < length xs → at < get_or xs k 0 + p

module _ {h : List ℕ} {v : View} (w : Seen h v) where
  multiple : (k : ℕ) → k < length (addresses h v) → get_or (addresses h v) k 0 % page_size v ≡ 0
  multiple k l = w.multiple k (rw (length_addresses h v) at l)

  lies-inside : (i : ℕ) → i % page_size v < page_size v
  lies-inside i = mod-lt i (omega (arith, w.least))

  walk_start : (from : ℕ) {place : ℕ} → Parted (addresses h v) (page_of (page_size v) from) place place → Ahead (addresses h v) (page_size v) from place
  walk_start from b = record {
    below = λ k l m. omega (arith, multiples (page_size v) _ _ (multiple k m) (page-multiple (page_size v) from) (b.below k l), div-add-mod' from (page_size v));
    above = λ k l m. omega (arith, b.above k l m, div-add-mod' from (page_size v), lies-inside from);
  }

  module _ (at : ℕ) {place end next : ℕ} (g : Ahead (addresses h v) (page_size v) at place) (n : NextStored h v.index place end next) where
    behind_too : (k : ℕ) → place ≤ k → k < length (addresses h v) → next ≤ get_or (addresses h v) k 0
    behind_too k l m =
        let there : place < v.index.entries = omega (arith, length_addresses h v) in
        ⊎_elim (λ (z : place ≡ k). rw (← z) (omega (arith, n.there there))) (λ (z : place < k). omega (arith, w.rising place k z m, n.there there)) (eq-or-lt_of_le l)

    -- The entry's page is the one that the offset lies in.
    module _ (inside : next ≤ at) (short : at < end) where
      there : place < v.index.entries
      there = ⊎_elim (λ l. l) (λ q. absurd (omega (arith, n.none (⊎_elim (λ r. omega arith) (λ r. omega arith) q)))) (order place v.index.entries)

      within : place < length (addresses h v)
      within = rw (length_addresses h v) there

      near : at < next + page_size v
      near = omega (arith, g.above place (omega arith) within, n.there there)

      its-page : (page_of (page_size v) at ≡ next) × (at % page_size v ≡ at - next)
      its-page =
          let z : next % page_size v ≡ 0 = rw (n.there there) (multiple place within) in
          let s : next + (at - next) ≡ at = omega arith in
          rw s at (page-at (page_size v) next (at - next) z (omega (arith, near)))

      hit-bytes : (o : List ℕ) (m : ℕ) {e : Entry} → e ≡ entry_at v.index.form h (v.index.at + entries_width v.index.form place) → at - next + m ≤ page_size v → part h (e.physical + (at - next)) m ≡ tabulate m (revision o h v.index at)
      hit-bytes o m q l =
          let r = its-page.1 in
          let f : place ≡ place_of (page_of (page_size v) at) (addresses h v) =
          sym (place_hit (page_of (page_size v) at) (addresses h v) place within (sym (n.there there) ∙ sym its-page.0) (λ k i q. omega (arith, w.rising k place i within, n.there there, its-page.0))) in
          rw (← r) (shown-stored o h v.index at m (omega (arith, w.least)) (omega arith) place f there q (omega (arith, entry-room h v w place there q)))

      hit_turn : (some : ℕ) → at + some ≡ next + page_size v → Ahead (addresses h v) (page_size v) (at + some) (place + 1)
      hit_turn some q = record {
        below = λ k l m. ⊎_elim (λ (z : k ≡ place). rw z (omega (arith, n.there there))) (λ (z : k < place). omega (arith, g.below k z m)) (eq-or-lt_of_le (omega arith));
        above = λ k l m.
            omega (arith, multiples (page_size v) _ _ (multiple place within) (multiple k m) (w.rising place k (omega arith) m), n.there there, w.least);
      }

    -- Its page lies behind the offset.
    module _ (behind : at < next) where
      nowhere : (i k : ℕ) → at ≤ i → i < next → k < length (addresses h v) → get_or (addresses h v) k 0 ≡ page_of (page_size v) i → ⊥
      nowhere i k l m r q = ⊎_elim
          (λ (z : k < place). omega (arith, g.below k z r, div-add-mod' i (page_size v), lies-inside i))
          (λ z. omega (arith, behind_too k (⊎_elim (λ y. omega arith) (λ y. omega arith) z) r, div-add-mod' i (page_size v)))
          (order k place)

      run-bytes : (o : List ℕ) (m : ℕ) → at + m ≤ next → tabulate m (original_byte o at) ≡ tabulate m (revision o h v.index at)
      unfolding revision_byte
      run-bytes o m l = tabulate-same m _ _ (λ j i. rw (has-nowhere (addresses h v) (page_of (page_size v) (at + j)) (λ k r q. nowhere (at + j) k (omega arith) (omega arith) r q)))

      run_turn : (some : ℕ) → at + some ≡ next → Ahead (addresses h v) (page_size v) (at + some) place
      run_turn some q = record {
        below = λ k l m. omega (arith, g.below k l m);
        above = λ k l m. omega (arith, behind_too k l m, w.least);
      }

-- ---- A buffer filled by the walk

-- The first `done` bytes of a buffer are the revision's, and the walk stands where the next of them lies.
pub record Walked (o h : List ℕ) (x : Index) (from : ℕ) (before now : List ℕ) (place done : ℕ) : Type 0 where
  pub so_far : ShownSoFar (revision o h x from) before now done
  pub ahead : done < length before → Ahead (logicals (entries_in h x)) x.form.page (from + done) place

pub walked_start : (o : List ℕ) {h : List ℕ} {v : View} (w : Seen h v) (from : ℕ) (before : List ℕ) {place : ℕ} → Parted (addresses h v) (page_of (page_size v) from) place place
    → Walked o h v.index from before before place 0
walked_start o w from before b = record { so_far = shown-start _ _; ahead = λ l. rw add-zero (walk_start w from b) }

module _ {o h : List ℕ} {v : View} {from : ℕ} {before now : List ℕ} {place done end next : ℕ} (w : Seen h v) (l : Walked o h v.index from before now place done)
    (more : done < length before) (n : NextStored h v.index place end next) where
  -- A page that the next byte lies in is there, and is near.
  pub hit-page : next ≤ from + done → from + done < end → (place < v.index.entries) × (from + done < next + page_size v)
  hit-page i s = let g = l.ahead more in (there w (from + done) g n i s, near w (from + done) g n i s)

  pub walked_hit : next ≤ from + done → from + done < end → {e : Entry} → e ≡ entry_at v.index.form h (v.index.at + entries_width v.index.form place)
      → {some : ℕ} {after : List ℕ} → some ≡ min (page_size v - (from + done - next)) (length before - done)
      → after ≡ laid now done (part h (e.physical + (from + done - next)) some) → Walked o h v.index from before after (place + 1) (done + some)
  walked_hit i s q {some} {after} m f =
      let g = l.ahead more in
      let close = near w (from + done) g n i s in
      record {
        so_far = shown_turn l.so_far some (omega arith) (f ∙ ap (laid now done) (hit-bytes w (from + done) g n i s o some q (omega arith) ∙ shown_further o h v.index from done some));
        ahead = λ k. rw (← add_assoc from done some) (hit_turn w (from + done) g n i s some (omega arith));
      }

  pub walked_run : from + done < next → {some : ℕ} {after : List ℕ} → some ≡ min (next - (from + done)) (length before - done)
      → after ≡ laid now done (tabulate some (original_byte o (from + done))) → Walked o h v.index from before after place (done + some)
  walked_run b {some} {after} m f =
      let g = l.ahead more in
      record {
        so_far = shown_turn l.so_far some (omega arith) (f ∙ ap (laid now done) (run-bytes w (from + done) g n b o some (omega arith) ∙ shown_further o h v.index from done some));
        ahead = λ k. rw (← add_assoc from done some) (run_turn w (from + done) g n b some (omega arith));
      }
