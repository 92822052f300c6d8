-- What a commit lays, one store behind the other, is what the rules say that it leaves.
use mathlib.Core.Path.{◌≡◌, refl, sym, ap, ◌∙◌}
use mathlib.Core.List.{List, [], ◌∷◌, ◌++◌}
use Prim.Native.Nat.{ℕ, suc, ◌+◌, ◌*◌, ◌-◌, ◌≤◌, ◌<◌}
use native.Mathlib.Omega.{arith}
use lib.ListN.{length, length-append}
use lib.Seq.{length-take-le}
use borrow.Author.Tests.{eqb-true}
use Rattle.rules.specs.Bytes.{part, number_bytes, laid}
use Rattle.rules.specs.Checksum.{checksum}
use Rattle.rules.specs.Layout.{
  entry_width,
  entry_sum_at,
  entries_width,
  front_width,
  header_width,
  header_bytes,
  setting_with,
  setting_of,
  whole_size,
  whole_bytes,
  location_width,
  location_at,
  index_bytes,
  entries_in,
  record_size,
  front_bytes,
  record_bytes,
  index_of,
  name_at,
}
use Rattle.rules.specs.View.{own_pages, own_address}
use Rattle.rules.specs.Session.{put, put_all, own_entry, merged_index, merged_count, record_stored, setting_stored, locations_stored, committed}
use Rattle.rules.specs.declared.Form.{Form}
use Rattle.rules.specs.declared.Setting.{Setting}
use Rattle.rules.specs.declared.Record.{Record}
use Rattle.rules.specs.declared.Entry.{Entry}
use Rattle.rules.specs.declared.Index.{Index}
use Rattle.rules.specs.declared.State.{State}
use Rattle.rules.proofs.Bytes.{length-laid, part-laid-below, laid_then, byte-below}
use Rattle.rules.proofs.Places.{end-behind, entry-least, entries_product}
use Rattle.rules.proofs.Range.{page_lies}
use Rattle.rules.proofs.Entries.{entries-laid, length-index_bytes, length_merged, sums-laid}
use Rattle.rules.proofs.RoundTrips.{record-front_long, length-record_bytes}
use Rattle.layout.specs.Paged.{farthest}
use Rattle.parts.proofs.Laid.{summed-laid}
use Rattle.whole.specs.Sound.{Sound}
use Rattle.whole.specs.Places.{Locked, Extensible}
use Rattle.records.specs.Sound.{SoundRecord, index_in}
use Rattle.records.proofs.Fields.{index-there}
use Rattle.records.proofs.Stands.{index-rising}
use Rattle.merge.specs.Merge.{Mergeable}
use Rattle.committing.specs.Stored.{Standing, Committable, texts_stored}

-- Pages put in with the same entries give the same index.
put_all-same : (make other : ℕ → ℕ → Entry) (i : ℕ) (pages : List ℕ) (index : List Entry)
    → ((j a : ℕ) → j < i + length pages → make j a ≡ other j a) → put_all make i pages index ≡ put_all other i pages index
unfolding put_all
put_all-same make other i [] index h = refl
put_all-same make other i (a ∷ pages) index h =
    rw (h i a (omega arith)) (put_all-same make other (suc i) pages (put (other i a) index) (λ j b l. h j b (omega arith)))

-- ---- Where the record stands, and its room

module _ {h : List ℕ} {s : Setting} {st : State} {parent r : Record} (q : Standing h s st parent r) where
  abbrev sound : Sound h s
  sound = q.session.parent.sound

  abbrev right : SoundRecord h s parent
  right = q.session.parent.right

  pub address_is : r.address ≡ own_address s st st.n
  address_is = ap (λ (t : Record). t.address) q.stored

  entries_is : r.entries ≡ merged_count (index_of h s.form parent) (own_pages st)
  entries_is = ap (λ (t : Record). t.entries) q.stored

  size_is : r.size ≡ record_size s.form r.entries r.name r.comment
  size_is = ap (λ (t : Record). t.size) q.stored ∙ rw (← entries_is)

  pub stored-behind : s.address + s.size ≤ r.address
  stored-behind = omega (arith, address_is, q.session.end, end-behind s.form s.address s.size)

  -- The record ends where the new whole history begins, or ahead of it, and that ends within the buffer.
  pub stored-room : r.address + r.size + whole_size (s.count + 1) ≤ length h
  stored-room =
      let after = setting_stored s r in
      omega (arith, q.room, end-behind s.form r.address r.size, end-behind s.form after.address after.size)

  pub texts-room : name_at s.form r + r.name + r.comment + 4 ≤ length h
  texts-room = omega (arith, size_is, stored-room)

  lock-stands : Locked h
  unfolding setting_of setting_with
  lock-stands = eqb-true _ _ (sym (ap (λ (t : Setting). t.lock) sound.setting) ∙ q.session.locked)

  -- ---- The merged index, put together once the front was laid

  module _ (time : List ℕ) (sixteen : length time ≡ 16) (user : ℕ) (x1 : List ℕ) (p1 : x1 ≡ laid h r.address (front_bytes s.form r time user)) where
    abbrev front : List ℕ
    front = front_bytes s.form r time user

    abbrev parents : Index
    parents = index_in s parent

    abbrev merged : List Entry
    merged = merged_index h s st (index_of h s.form parent)

    wide : length front ≡ front_width s.form
    wide = record-front_long s.form r time user sixteen

    fits : r.address + length front ≤ length h
    fits = omega (arith, wide, size_is, stored-room)

    long : length x1 ≡ length h
    long = ap length p1 ∙ length-laid h r.address front fits

    ahead : parents.at + entries_width s.form parent.entries ≤ r.address
    ahead = omega (arith, right.inside, stored-behind)

    same_index : entries_in x1 parents ≡ entries_in h parents
    unfolding index_in
    same_index = rw p1 (entries-laid s.form h r.address front parents.at parent.entries fits ahead)

    same-page : (i : ℕ) → i < st.n → part x1 (st.end + i * s.form.page) s.form.page ≡ part h (st.end + i * s.form.page) s.form.page
    same-page i l = rw p1 (part-laid-below h r.address front fits (st.end + i * s.form.page) s.form.page (omega (arith, page_lies i st.n s.form.page l, address_is)))

    same_merged : st.n ≤ length st.pages → put_all (own_entry x1 s.form.page st.end) 0 (own_pages st) (entries_in x1 parents) ≡ merged
    unfolding merged_index
    same_merged l =
        rw (same_index, index-there h s parent)
        (put_all-same (own_entry x1 s.form.page st.end) (own_entry h s.form.page st.end) 0 (own_pages st) (index_of h s.form parent)
        (λ i a m. rw (same-page i (omega (arith, length-take-le st.n st.pages l)))))

    pub mergeable : {x : Index} {to : ℕ} → x ≡ parents → to ≡ r.address + front_width s.form → st.n ≤ length st.pages
        → Mergeable x1 x (own_pages st) st.end to
    unfolding index_in
    mergeable ex et l =
        let least = entry-least s.form in
        let product = entries_product s.form parent.entries in
        let count : merged_count (entries_in x1 parents) (own_pages st) ≡ r.entries = rw (same_index, index-there h s parent) (sym entries_is) in
        rw (ex, et)
        (record {
          rising = rw same_index (index-rising h s parent right);
          summed = rw p1 (sums-laid (entry_width s.form) (entry_sum_at s.form) h r.address front fits (omega arith) (omega arith) parents.at parent.entries (omega (arith, ahead)) ∙ right.summed);
          distinct = q.session.differ;
          index-ahead = omega (arith, ahead);
          pages-ahead = rw (length-take-le st.n st.pages l) (omega (arith, address_is));
          room = rw (count, long) (omega (arith, size_is, stored-room));
          short = rw long sound.short;
        })

    pub indexed-laid : {x : Index} {to : ℕ} (x2 : List ℕ) → x ≡ parents → to ≡ r.address + front_width s.form → st.n ≤ length st.pages
        → x2 ≡ laid x1 to (index_bytes x.form (put_all (own_entry x1 x.form.page st.end) 0 (own_pages st) (entries_in x1 x)))
        → x2 ≡ laid h r.address (front ++ index_bytes s.form merged)
    unfolding index_in
    indexed-laid {x} {to} x2 ex et l p2 =
        laid_then h x1 x2 front (index_bytes s.form merged) r.address to p1 (p2 ∙ rw (ex, same_merged l)) (omega (arith, wide, et)) (omega (arith, et, size_is, stored-room))

-- ---- Name, comment and checksum

pub texts-laid : (f : Form) (r : Record) (name comment h x1 x2 x3 : List ℕ) {at : ℕ} → at ≡ name_at f r → x1 ≡ laid h at name → x2 ≡ laid x1 (at + length name) comment
    → x3 ≡ laid x2 (at + length name + length comment) (number_bytes 4 (checksum (part x2 r.address (at + length name + length comment - r.address))))
    → x3 ≡ texts_stored f r name comment h
unfolding texts_stored
texts-laid f r name comment h x1 x2 x3 e p1 p2 p3 = p3 ∙ rw (p2, p1, e)

-- ---- The whole commit

module _ {h : List ℕ} {s : Setting} {st : State} {parent r : Record} {time name comment : List ℕ} (c : Committable h s st parent r time name comment) (user : ℕ) where
  abbrev q : Standing h s st parent r
  q = c.standing

  abbrev index : List Entry
  index = merged_index h s st (index_of h s.form parent)

  abbrev stored : List ℕ
  stored = record_bytes s.form r time user index name comment

  abbrev start : List ℕ
  start = front_bytes s.form r time user ++ index_bytes s.form index

  count_merged : length index ≡ r.entries
  count_merged = length_merged h s st (index_of h s.form parent) ∙ sym (entries_is q)

  start_long : r.address + length start ≡ name_at s.form r
  start_long = simp (length-append, record-front_long s.form r time user c.timed, length-index_bytes s.form index, count_merged) (omega arith)

  stored_long : length stored ≡ r.size
  stored_long = length-record_bytes s.form r time user index name comment c.timed ∙ rw (count_merged, ← c.named, ← c.commented) (sym (size_is q))

  whole_fits : r.address + length stored ≤ length h
  whole_fits = omega (arith, stored_long, stored-room q)

  -- The record with its texts and checksum.
  pub record-laid : (h1 h2 : List ℕ) → h1 ≡ laid h r.address start → h2 ≡ texts_stored s.form r name comment h1 → h2 ≡ laid h r.address stored
  unfolding texts_stored record_bytes
  record-laid h1 h2 p1 p2 =
      let at = name_at s.form r in
      let room : at + length name + length comment + 4 ≤ length h = omega (arith, texts-room q, c.named, c.commented) in
      let a1 = laid_then h h1 (laid h1 at name) start name r.address at p1 refl start_long (omega (arith, room)) in
      let a2 = laid_then h (laid h1 at name) (laid (laid h1 at name) (at + length name) comment) (start ++ name) comment r.address (at + length name) a1 refl (rw length-append (omega (arith, start_long))) (omega (arith, room)) in
      summed-laid h (laid (laid h1 at name) (at + length name) comment) h2 (start ++ name ++ comment) r.address (at + length name + length comment) a2 (simp length-append (omega (arith, start_long, length-append (front_bytes s.form r time user) (index_bytes s.form index)))) (omega (arith, room)) p2

  module _ (h2 : List ℕ) (p2 : h2 ≡ laid h r.address stored) where
    kept : length h2 ≡ length h
    kept = ap length p2 ∙ length-laid h r.address stored whole_fits

    -- The record stands behind the header, and leaves its lock alone.
    lock_left : Locked h2
    lock_left =
        let w = sound q in
        rw (p2, byte-below h r.address stored (omega (arith, whole_fits)) 5 (omega (arith, stored-behind q, w.behind, end-behind s.form 0 header_width))) (lock-stands q)

    pub extensible : (Extensible h2 s r) × (r.address ≤ farthest) × (header_width ≤ length h2)
    extensible =
        let w = sound q in (
          record {
            locked = lock_left;
            short = rw kept w.short;
            paged = w.paged;
            few = q.session.few;
            ahead = omega (arith, stored-behind q, w.sized);
            sized = omega (arith, stored-room q, w.short);
            room = rw kept q.room;
          },
          omega (arith, stored-room q, w.short),
          rw kept w.front,
        )

    locations-same : locations_stored h2 s r ≡ locations_stored h s r
    locations-same = rw (p2, part-laid-below h r.address stored whole_fits (location_at s 1) (location_width * s.count) (omega (arith, stored-behind q, (sound q).sized)))

    same_record : record_stored s st (length index) (length name) (length comment) ≡ r
    same_record =
        let counts : record_stored s st (length index) (length name) (length comment) ≡ record_stored s st (merged_count (index_of h s.form parent) (own_pages st)) r.name r.comment =
        rw (length_merged h s st (index_of h s.form parent), c.named, c.commented) in
        counts ∙ sym q.stored

    pub commit_leaves : (h3 : List ℕ) → h3 ≡ laid (laid h2 (setting_stored s r).address (whole_bytes s.form (s.count + 1) (locations_stored h2 s r))) 0 (header_bytes (setting_stored s r))
        → h3 ≡ committed h s st index time user name comment
    unfolding committed
    commit_leaves h3 p3 =
        let leaves : Record → List ℕ = λ t. laid (laid (laid h t.address (record_bytes s.form t time user index name comment)) (setting_stored s t).address (whole_bytes s.form (s.count + 1) (locations_stored h s t))) 0 (header_bytes (setting_stored s t)) in
        let here : laid (laid h2 (setting_stored s r).address (whole_bytes s.form (s.count + 1) (locations_stored h2 s r))) 0 (header_bytes (setting_stored s r)) ≡ leaves r = rw (locations-same, p2) in
        p3 ∙ here ∙ sym (ap leaves same_record)
