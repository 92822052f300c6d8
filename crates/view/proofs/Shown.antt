-- The bytes of a view, page by page.
use mathlib.Core.Path.{◌≡◌, refl, sym, ap, ◌∙◌}
use mathlib.Core.Bool.{cond}
use mathlib.Core.List.{List}
use Prim.Native.Nat.{ℕ, zero, suc, ◌+◌, ◌-◌, ◌%◌, ◌≤◌, ◌<◌, min}
use native.Mathlib.Nat.{zero-add, add_assoc}
use native.Mathlib.Omega.{arith}
use lib.ListN.{length, take, drop, get_or, replicate, get_or-eq_default}
use Rattle.rules.specs.Bytes.{byte_at, part, laid, tabulate}
use Rattle.rules.specs.Layout.{entries_width, entry_at, entries_in}
use Rattle.rules.specs.View.{place_of, logicals, has_page, entry_of, page_of, revision_byte}
use Rattle.rules.specs.declared.Index.{Index}
use Rattle.rules.specs.declared.Entry.{Entry}
use Rattle.rules.proofs.Bytes.{
  laid_then,
  laid_whole,
  laid-nothing,
  length-laid,
  length-tabulate,
  tabulate-append,
  tabulate-same,
  part-tabulate,
  slice-part,
  tabulate_zeros,
}
use Rattle.rules.proofs.Range.{page_of_lem, page-there, entry-there}
use Rattle.view.specs.Seen.{original_byte}

-- ---- The original

-- What the original has of n bytes from an offset, and zeros behind.
pub original_laid : (o x0 : List ℕ) (to from n : ℕ) {start there : ℕ} {x1 x2 : List ℕ} → start ≡ min from (length o) → there ≡ min n (length o - start) → to + n ≤ length x0
    → x1 ≡ laid x0 to (take (start + there - start) (drop start o)) → x2 ≡ laid x1 (to + there) (replicate (n - there) 0)
    → x2 ≡ laid x0 to (tabulate n (original_byte o from))
unfolding tabulate
original_laid o x0 to from n {start} {there} {x1} {x2} es et h e f =
    let a : x1 ≡ laid x0 to (tabulate there (original_byte o from)) = e ∙ ap (laid x0 to) (slice-part o start there ∙ run there refl) in
    let b : x2 ≡ laid x1 (to + there) (tabulate (n - there) (λ j. original_byte o from (there + j))) =
    f ∙ ap (laid x1 (to + there)) (tabulate_zeros (λ j. original_byte o from (there + j)) (n - there) (λ j q. get_or-eq_default o 0 (omega arith))) in
    let c : there + (n - there) ≡ n = omega arith in
    laid_then x0 x1 x2 _ _ to (to + there) a b (rw (length-tabulate there (original_byte o from))) (omega arith)
    ∙ ap (laid x0 to) (sym (tabulate-append there (n - there) (original_byte o from)) ∙ rw c)
  where
    run : (k : ℕ) → there ≡ k → part o start k ≡ tabulate k (original_byte o from)
    run zero z = refl
    run (suc k) z = let s : start ≡ from = omega arith in rw s (part-tabulate o from (suc k) (omega arith))

-- ---- One page

-- The bytes of a revision, counted from an offset.
abbrev pub revision : List ℕ → List ℕ → Index → ℕ → ℕ → ℕ
revision o h x from j = revision_byte o h x.form.page (entries_in h x) (from + j)

module _ (o h : List ℕ) (x : Index) (from n : ℕ) (some : 0 < x.form.page) (fits : from % x.form.page + n ≤ x.form.page) where
  abbrev here : ℕ
  here = page_of x.form.page from

  -- They lie in one page.
  in-page : (j : ℕ) → j < n
      → revision o h x from j ≡ cond (has_page (entries_in h x) here) (byte_at h ((entry_of (entries_in h x) here).physical + (from % x.form.page + j))) (byte_at o (from + j))
  unfolding revision_byte
  in-page j q = let z = page_of_lem x.form.page from j some (omega arith) in rw (z.0, z.1)

  -- The index has it.
  pub shown-stored : (place : ℕ) {e : Entry} → place ≡ place_of here (logicals (entries_in h x)) → place < x.entries
      → e ≡ entry_at x.form h (x.at + entries_width x.form place)
      → e.physical + from % x.form.page + n ≤ length h
      → part h (e.physical + from % x.form.page) n ≡ tabulate n (revision o h x from)
  shown-stored place {e} f lp q room =
      let g : e ≡ entry_of (entries_in h x) here = q ∙ entry-there h x here f lp in
      part-tabulate h _ n room
      ∙ tabulate-same n _ _
      (λ j k. sym (in-page j k ∙ rw (page-there h x here f lp, ← g) (ap (λ (i : ℕ). get_or h i 0) (sym (add_assoc e.physical (from % x.form.page) j)))))

-- ---- All of a buffer

-- The first `done` bytes of a buffer are those that are shown.
pub record ShownSoFar (f : ℕ → ℕ) (before now : List ℕ) (done : ℕ) : Type 0 where
  pub within : done ≤ length before
  pub bytes : now ≡ laid before 0 (tabulate done f)

pub shown-start : (f : ℕ → ℕ) (before : List ℕ) → ShownSoFar f before before 0
unfolding tabulate
shown-start f before = record { within = omega arith; bytes = sym (laid-nothing before 0) }

module _ {f : ℕ → ℕ} {before now : List ℕ} {done : ℕ} (l : ShownSoFar f before now done) where
  fits_so : 0 + length (tabulate done f) ≤ length before
  fits_so = rw (length-tabulate done f) (omega (arith, l.within))

  pub shown-length : length now ≡ length before
  shown-length = rw l.bytes (length-laid before 0 (tabulate done f) fits_so)

  pub shown_turn : (some : ℕ) {more : List ℕ} → done + some ≤ length before → more ≡ laid now done (tabulate some (λ j. f (done + j)))
      → ShownSoFar f before more (done + some)
  shown_turn some {more} h e = record {
    within = h;
    bytes =
        laid_then before now more (tabulate done f) (tabulate some (λ j. f (done + j))) 0 done l.bytes e (rw (length-tabulate done f) (zero-add done)) (omega arith)
        ∙ ap (laid before 0) (sym (tabulate-append done some f));
  }

  pub shown-end : length before ≤ done → now ≡ tabulate (length before) f
  shown-end h =
      let q : done ≡ length before = omega (arith, l.within) in
      l.bytes ∙ rw q (laid_whole before (tabulate (length before) f) (length-tabulate (length before) f))

-- The bytes from a further offset on.
pub shown_further : (o h : List ℕ) (x : Index) (from done some : ℕ) → tabulate some (revision o h x (from + done)) ≡ tabulate some (λ j. revision o h x from (done + j))
shown_further o h x from done some = tabulate-same some _ _ (λ j l. ap (revision_byte o h x.form.page (entries_in h x)) (add_assoc from done j))
