-- The pages of a write: what counting and writing them rest on.
use mathlib.Core.Path.{◌≡◌, refl}
use mathlib.Core.List.{List}
use Prim.Native.Nat.{ℕ, ◌+◌, ◌≤◌, max}
use native.Mathlib.Omega.{arith}
use lib.ListN.{length}
use Rattle.rules.specs.Layout.{entry_limit, touch_limit, entries_width, entries_in, index_of}
use Rattle.rules.specs.Orders.{Rising}
use Rattle.rules.specs.View.{logicals, own_pages, pages_shared}
use Rattle.rules.specs.Session.{Held, with_size, written, written_pages, merged_count}
use Rattle.rules.specs.declared.Setting.{Setting}
use Rattle.rules.specs.declared.Record.{Record}
use Rattle.rules.specs.declared.Index.{Index}
use Rattle.rules.specs.declared.State.{State}
use Rattle.rules.proofs.Entries.{length_entries}
use Rattle.rules.proofs.Places.{end-behind}
use Rattle.layout.specs.Paged.{Paged}
use Rattle.records.specs.Sound.{index_in}
use Rattle.records.proofs.Fields.{index-there}
use Rattle.records.proofs.Stands.{index-rising, page-ahead}
use Rattle.sessions.specs.Sound.{SoundSession}
use Rattle.touching.specs.Pages.{Ready, Counted}
use Rattle.writing.specs.Writable.{Writable}
use Rattle.writing.proofs.Counts.{merged-most}

module _ {h : List ℕ} {s : Setting} {st : State} {r : Record} (q : SoundSession h s st r) {x : Index} (e : x ≡ index_in s r) where
  ahead : (index_in s r).at + entries_width s.form r.entries ≤ st.end
  ahead = let p = q.parent in omega (arith, p.right.inside, q.end, end-behind s.form s.address s.size)

  pub index-room : x.at + entries_width x.form x.entries ≤ length h
  unfolding index_in
  index-room = let p = q.parent in rw e (omega (arith, p.right.inside, p.sound.inside))

  pub index_rises : Rising (logicals (entries_in h x))
  index_rises = rw e (index-rising h s r q.parent.right)

  pub index-paged : Paged x.form
  unfolding index_in
  index-paged = rw e q.parent.sound.paged

  -- So many entries at the most.
  pub before-most : {before : ℕ} → before ≡ merged_count (entries_in h x) (own_pages st) → before ≤ entry_limit + length (own_pages st)
  unfolding index_in
  before-most f =
      let long : length (entries_in h x) ≡ r.entries = rw e (length_entries s.form h (index_in s r).at r.entries) in
      omega (arith, f, merged-most (entries_in h x) (own_pages st), long, q.parent.right.few)

  -- What was counted, of the parent's index.
  pub counted-there : (own : List ℕ) (at n : ℕ) {touched merged : ℕ} → Counted (entries_in h x) own (pages_shared x.form.page at n) touched merged
      → Counted (index_of h s.form r) own (pages_shared s.form.page at n) touched merged
  unfolding index_in
  counted-there own at n c = rw (e, index-there h s r) at c

-- Pages that rows 14 and 15 have passed can be touched.
pub ready : {h : List ℕ} {s : Setting} {st : State} {r : Record} (at n : ℕ) {x : Index} → Writable h s st r at n → x ≡ index_in s r → length st.pages ≡ touch_limit
    → Ready h s x (entries_in h x) st (pages_shared s.form.page at n)
unfolding index_in
ready {h} {s} {st} {r} at n w e full =
    let q = w.session in
    let p = q.parent in
    rw e
    (record {
      sized = p.sound.paged;
      short = p.sound.short;
      small = q.small;
      full = full;
      few = q.touched;
      same = refl;
      ahead = ahead q refl;
      rising = index-rising h s r p.right;
      stored = λ k l. omega (arith, page-ahead h s r p.right k l, p.right.below, q.end, end-behind s.form s.address s.size);
      touches = w.touches;
      room = w.room;
    })

-- The pages written, and the session grown to the end of what was written.
pub written_whole : (o h : List ℕ) (s : Setting) (st : State) (r : Record) (at : ℕ) (bytes : List ℕ) {x : Index} {size : ℕ} {b : List ℕ} {t : State} → x ≡ index_in s r
    → ◌≡◌ {A = Held} (record { history = b; session = t })
    (written_pages o s (entries_in h x) at bytes (pages_shared s.form.page at (length bytes)) (record { history = h; session = st }))
    → size ≡ max st.size (at + length bytes)
    → ◌≡◌ {A = Held} (record { history = b; session = with_size t size }) (written o s (index_of h s.form r) at bytes (record { history = h; session = st }))
unfolding written
written_whole o h s st r at bytes {x} {size} {b} {t} e q f =
    let p : ◌≡◌ {A = Held} (record { history = b; session = t })
    (written_pages o s (index_of h s.form r) at bytes (pages_shared s.form.page at (length bytes)) (record { history = h; session = st })) = rw (e, index-there h s r) at q in
    rw (← p, f)
