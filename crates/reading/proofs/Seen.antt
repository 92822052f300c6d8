-- The view of a revision or a session whose rows have passed: it can be read, and shows what the rules say.
use mathlib.Core.Path.{◌≡◌, refl, ◌∙◌}
use mathlib.Core.Bool.{Bool}
use mathlib.Core.List.{List, []}
use Prim.Native.Nat.{ℕ, ◌+◌, ◌*◌, ◌≤◌}
use native.Mathlib.Nat.{mul-le-mul_right}
use native.Mathlib.Omega.{arith}
use lib.ListN.{length}
use Rattle.rules.specs.Bytes.{tabulate}
use Rattle.rules.specs.Layout.{entries_in, index_of}
use Rattle.rules.specs.View.{place_of, revision_byte, shown_byte, pages_shared}
use Rattle.rules.specs.Rows.{pages_wrong}
use Rattle.rules.specs.declared.Setting.{Setting}
use Rattle.rules.specs.declared.Record.{Record}
use Rattle.rules.specs.declared.Index.{Index}
use Rattle.rules.proofs.Bytes.{tabulate-same}
use Rattle.records.specs.Sound.{Standing, index_in}
use Rattle.records.proofs.Fields.{index-there}
use Rattle.records.proofs.Stands.{index-rising, page-multiple, page-ahead}
use Rattle.view.specs.Seen.{Seen}
use Rattle.view.specs.declared.View.{View}

module _ {h : List ℕ} {s : Setting} {k : ℕ} {r : Record} (w : Standing h s k r) where
  pub view_seen : {v : View} → v.index ≡ index_in s r → {n : ℕ} → v.end + n * s.form.page ≤ length h → length v.own.now ≤ n → Seen h v
  unfolding index_in
  view_seen {v} e l few =
      let whole = w.sound in
      let q = w.right in
      record {
        short = whole.short;
        allowed = rw e whole.allowed;
        least = rw e whole.paged.least;
        most = rw e whole.paged.most;
        few = rw e q.few;
        room = rw e (omega (arith, q.inside, whole.inside));
        rising = rw e (index-rising h s r q);
        multiple = rw e (page-multiple h s r q);
        stored = rw e (λ i j. omega (arith, page-ahead h s r q i j, q.below, whole.inside));
        owned = rw e (omega (arith, mul-le-mul_right s.form.page few));
      }

-- Its pages and bytes are those of the record's index.
module _ {h : List ℕ} {s : Setting} {k : ℕ} {r : Record} (w : Standing h s k r) {x : Index} (e : x ≡ index_in s r) where
  pub view-pages : (own : List ℕ) (at n : ℕ) {b : Bool} → b ≡ pages_wrong own h x.form.page (entries_in h x) (pages_shared x.form.page at n)
      → b ≡ pages_wrong own h s.form.page (index_of h s.form r) (pages_shared s.form.page at n)
  unfolding index_in
  view-pages own at n f = f ∙ rw (e, index-there h s r)

  pub view-bytes : (o own : List ℕ) (end at n : ℕ)
      → tabulate n (λ j. shown_byte o h x.form.page (entries_in h x) end own (at + j)) ≡ tabulate n (λ j. shown_byte o h s.form.page (index_of h s.form r) end own (at + j))
  unfolding index_in
  view-bytes o own end at n = rw (e, index-there h s r)

-- A view with no own pages shows the revision.
pub no_own : (o h : List ℕ) (s : Setting) (r : Record) (end at n : ℕ)
    → tabulate n (λ j. shown_byte o h s.form.page (index_of h s.form r) end [] (at + j)) ≡ tabulate n (λ j. revision_byte o h s.form.page (index_of h s.form r) (at + j))
unfolding shown_byte place_of
no_own o h s r end at n = tabulate-same n _ _ (λ j l. refl)
