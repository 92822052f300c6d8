-- A commit: what stood stands, and behind it a revision that shows what its session showed, with the index worked out afresh.
use mathlib.Core.Path.{◌≡◌, refl, sym, ap, ◌∙◌}
use mathlib.Core.Bool.{true, false, ◌&&◌}
use mathlib.Core.Logic.{inl, inr, ⊎_elim}
use mathlib.Core.List.{List, [], ◌∷◌, ◌++◌}
use Prim.Native.Nat.{ℕ, suc, ◌+◌, ◌*◌, ◌-◌, ◌%◌, ◌^◌, ◌≤◌, ◌<◌}
use native.Mathlib.Numerals.{add-one}
use native.Mathlib.Nat.{zero-add}
use native.Mathlib.Omega.{arith}
use lib.Dec.{leb, ltb}
use lib.ListN.{length, get_or, length-append, get_or-append}
use lib.Seq.{get_or-append_seam}
use borrow.Author.Tests.{le-leb, lt-ltb, eq-eqb, leb-true, ltb-true, ltb-false, eqb-true, not-false}
use Rattle.rules.specs.Bytes.{byte_at, part, laid, tabulate}
use Rattle.rules.specs.Checksum.{checksum}
use Rattle.rules.specs.Layout.{
  limit,
  revision_limit,
  entry_limit,
  touch_limit,
  name_limit,
  comment_limit,
  address_at,
  sum_stands,
  sums_stand,
  header_width,
  header_bytes,
  setting_of,
  committed_end,
  whole_size,
  whole_bytes,
  location_width,
  location_bytes,
  location_at,
  header_end,
  empty_end,
  record_bytes,
  record_of,
  time_right,
  commit_time_right,
  text_right,
  name_right,
  comment_right,
  count_at,
  located_size,
}
use Rattle.rules.specs.Orders.{Rising, Distinct}
use Rattle.rules.specs.View.{place_of, has, no_entry, logicals, page_of, revision_byte, own_pages, shown_byte, session_byte}
use Rattle.rules.specs.Session.{own_entry, merged_index, merged_count, record_stored, setting_stored, locations_stored, committed}
use Rattle.rules.specs.Rows.{record_fields, page_sum_wrong, too_many, no_room, texts_wrong}
use Rattle.rules.specs.Calls.{header_rows, record_rows, revision_index, commit_rows}
use Rattle.rules.specs.Moments.{Logged}
use Rattle.rules.specs.History.{Revision, nothing, entry_afresh, worked}
use Rattle.rules.specs.declared.Form.{Form}
use Rattle.rules.specs.declared.Setting.{Setting}
use Rattle.rules.specs.declared.Record.{Record}
use Rattle.rules.specs.declared.Entry.{Entry}
use Rattle.rules.specs.declared.State.{State}
use Rattle.rules.proofs.Bytes.{length_part, length-laid, part-laid, part-tabulate, tabulate-same, byte-below}
use Rattle.rules.proofs.Checksum.{checksum_less}
use Rattle.rules.proofs.Rows.{both, row-clear, then-clear}
use Rattle.rules.proofs.Places.{end-behind, end-ordered}
use Rattle.rules.proofs.Entries.{EntryRight, either, page_fits, pages-differ, place_value, length_merged}
use Rattle.rules.proofs.Rising.{rising-put_all}
use Rattle.rules.proofs.Range.{page-at, page_lies, own-length}
use Rattle.rules.proofs.Writes.{shown_own}
use Rattle.rules.proofs.Same.{Same, same-within, same_then, part_same, part-inside, sums_moved, sums_more}
use Rattle.rules.proofs.Headers.{page-most, HeaderFacts, header_facts, WholeFacts, whole-summed}
use Rattle.rules.proofs.RoundTrips.{first_piece, next_piece, EntryFits, location_back, length-location_bytes, SettingFits, header_back, length-whole_bytes, WholeBack, whole_back, RecordBack, length-record_bytes, record_back}
use Rattle.rules.proofs.Records.{RecordRight, right_entries, pass_rows, Grown, empty-behind}
use Rattle.rules.proofs.Sessions.{SessionRight, or-none}
use Rattle.rules.proofs.Afresh.{has_merged, entry_merged_own, entry_merged_old, merged-page, put_all-all}
use Rattle.rules.proofs.Stored.{IndexRight, index-right, logical-right, Stored, Lie, pages_lie, sum_same, byte-same, stored-grown}
use Rattle.rules.proofs.Holds.{Holds, some-page, original-most}
use Rattle.rules.proofs.Opened.{noted_bytes, Opened, fits, facts, parent-stored, parent-size}
use Rattle.rules.proofs.Locks.{header-stands, header-behind, setting_fits}

-- ---- The merged index shows what the session shows

revision_merged : (original h : List ℕ) (s : Setting) (st : State) (index : List Entry) → Distinct (own_pages st) → (i : ℕ)
    → revision_byte original h s.form.page (merged_index h s st index) i ≡ session_byte original h s st index i
unfolding revision_byte shown_byte
revision_merged original h s st index differ i =
    let a : ℕ = page_of s.form.page i in
    ⊎_elim
    (λ (t : has (own_pages st) a ≡ true). rw (has_merged h s st index differ a, entry_merged_own h s st index differ a t, t))
    (λ (t : has (own_pages st) a ≡ false). rw (has_merged h s st index differ a, entry_merged_old h s st index differ a t, t))
    (either (has (own_pages st) a))

-- ---- A time that is right has sixteen bytes

pub time_long : (time : List ℕ) → time_right time ≡ true → length time ≡ 16
unfolding time_right
time_long time t =
    let a9 = both _ _ t in
    let a8 = both _ _ a9.0 in
    let a7 = both _ _ a8.0 in
    let a6 = both _ _ a7.0 in
    let a5 = both _ _ a6.0 in
    let a4 = both _ _ a5.0 in
    let a3 = both _ _ a4.0 in
    let a2 = both _ _ a3.0 in
    let a1 = both _ _ a2.0 in
    eqb-true _ _ a1.0

-- ---- The rows of a commit

module _ {original : List ℕ} {p : ℕ} {h : List ℕ} {vs : List Revision} {st : State} {l : Logged} (w : Holds original p h vs) (o : Opened original p h vs st l)
    (time : List ℕ) (user : ℕ) (name comment : List ℕ) (passes : commit_rows st h time name comment ≡ 0) where
  abbrev s : Setting
  s = setting_of h

  abbrev f : Form
  f = s.form

  abbrev index : List Entry
  index = revision_index h s st.parent

  abbrev merged : List Entry
  merged = merged_index h s st index

  abbrev r : Record
  r = record_stored s st (length merged) (length name) (length comment)

  abbrev after : Setting
  after = setting_stored s r

  -- What they leave.
  record Committable : Type 0 where
    few : length merged ≤ entry_limit
    timed : time_right time ≡ true
    named : text_right name ≡ true
    short_name : length name ≤ name_limit
    commented : text_right comment ≡ true
    short_comment : length comment ≤ comment_limit
    room : committed_end after ≤ length h

  committable : Committable
  unfolding commit_rows too_many texts_wrong no_room
  committable =
      let a = then-clear _ _ passes in
      let b = then-clear _ _ a.1 in
      let c = then-clear _ _ b.1 in
      let texts = not-false _ (row-clear 16 _ (omega arith) c.0) in
      let two = both (commit_time_right time && name_right name) (comment_right comment) texts in
      let one = both (commit_time_right time) (name_right name) two.0 in
      let n = both (text_right name) (leb (length name) name_limit) one.1 in
      let m = both (text_right comment) (leb (length comment) comment_limit) two.1 in
      record {
        few = omega (arith, length_merged h s st index, ltb-false entry_limit (merged_count index (own_pages st)) (or-none (ltb touch_limit (length (own_pages st))) (ltb entry_limit (merged_count index (own_pages st))) (row-clear 14 _ (omega arith) b.0)).1);
        timed = one.0;
        named = n.0;
        short_name = leb-true _ _ n.1;
        commented = m.0;
        short_comment = leb-true _ _ m.1;
        room = ltb-false _ _ (row-clear 15 _ (omega arith) c.1);
      }

  right : SessionRight (length h) s st
  right = fits w o

  whole : WholeFacts (length h) s
  whole = facts w o

  first : HeaderFacts h
  first = header_facts h w.header

  stored : Stored original h s st.parent (get_or vs st.parent nothing)
  stored = parent-stored w o

  differ : Distinct (own_pages st)
  differ = pages-differ f.page st.size (own_pages st) right.pages

  own_long : length (own_pages st) ≡ st.n
  own_long = own-length st (omega (arith, right.touched, o.slots))

  -- ---- Where all of it lies

  record Places : Type 0 where
    header : header_width ≤ s.address
    whole-ends : s.address + s.size ≤ st.end
    empty : empty_end f ≤ st.end
    pages : st.end ≤ r.address
    record-ends : r.address + r.size ≤ after.address
    ends : after.address + after.size ≤ length h
    short : length h ≤ limit

  places : Places
  places = record {
    header = omega (arith, whole.behind, end-behind f 0 header_width);
    whole-ends = omega (arith, right.end, end-behind f s.address s.size);
    empty = omega (arith, right.end, end-ordered f (header_end f) s.address (whole_size 0) s.size whole.behind (omega (arith, whole.sized)));
    pages = omega arith;
    record-ends = end-behind f r.address r.size;
    ends = omega (arith, committable.room, end-behind f after.address after.size);
    short = first.short;
  }

  -- ---- The bytes that are stored

  abbrev record_is_lem : List ℕ
  record_is_lem = record_bytes f r time user merged name comment

  abbrev locations : List ℕ
  locations = locations_stored h s r

  abbrev whole_is : List ℕ
  whole_is = whole_bytes f after.count locations

  abbrev with_record : List ℕ
  with_record = laid h r.address record_is_lem

  abbrev with_whole : List ℕ
  with_whole = laid with_record after.address whole_is

  abbrev h' : List ℕ
  h' = laid with_whole 0 (header_bytes after)

  sixteen : length time ≡ 16
  sixteen = time_long time committable.timed

  record_long : length record_is_lem ≡ r.size
  record_long = length-record_bytes f r time user merged name comment sixteen

  standing_long : length (part h (location_at s 1) (location_width * s.count)) ≡ location_width * s.count
  standing_long = length_part h (location_at s 1) (location_width * s.count) (omega (arith, places.whole-ends, places.pages, places.record-ends, places.ends, whole.sized))

  locations_long : length locations ≡ location_width * after.count
  locations_long = length-append (part h (location_at s 1) (location_width * s.count)) _ ∙ rw (standing_long, length-location_bytes f r.address r.size) (omega arith)

  whole_long : length whole_is ≡ after.size
  whole_long = length-whole_bytes f after.count locations locations_long

  record_fits : r.address + length record_is_lem ≤ length h
  record_fits = rw record_long (omega (arith, places.record-ends, places.ends))

  same_record : Same 0 r.address h with_record
  same_record = record {
    long = length-laid h r.address record_is_lem record_fits;
    bytes = λ i a b. byte-below h r.address record_is_lem (omega (arith, record_fits)) i b;
  }

  whole_fits : after.address + length whole_is ≤ length with_record
  whole_fits = rw (whole_long, same_record.long) places.ends

  same_whole : Same 0 after.address with_record with_whole
  same_whole = record {
    long = length-laid with_record after.address whole_is whole_fits;
    bytes = λ i a b. byte-below with_record after.address whole_is (omega (arith, whole_fits)) i b;
  }

  long : length with_whole ≡ length h
  long = same_whole.long ∙ same_record.long

  wide : header_width ≤ length with_whole
  wide = rw long first.front

  same_header : Same header_width (length with_whole) with_whole h'
  same_header = header-behind with_whole after wide

  -- All ahead of the record stands.
  pub stands : Same header_width r.address h h'
  stands =
      same_then (same-within header_width r.address same_record (omega arith) (omega arith))
      (same_then (same-within header_width r.address same_whole (omega arith) (omega (arith, places.record-ends)))
      (same-within header_width r.address same_header (omega arith) (rw long (omega (arith, places.record-ends, places.ends)))))

  behind_header : header_width ≤ r.address
  behind_header = omega (arith, places.header, places.whole-ends, places.pages)

  record-there : part h' r.address r.size ≡ record_is_lem
  record-there =
      part_same same_header r.address r.size behind_header (rw long (omega (arith, places.record-ends, places.ends)))
      ∙ part_same same_whole r.address r.size (omega arith) places.record-ends
      ∙ rw record_long at (part-laid h r.address record_is_lem record_fits)

  whole-there : part h' after.address after.size ≡ whole_is
  whole-there =
      part_same same_header after.address after.size (omega (arith, behind_header, places.record-ends)) (rw long places.ends)
      ∙ rw whole_long at (part-laid with_record after.address whole_is whole_fits)

  -- ---- What the history says of itself then

  after_fits : SettingFits after
  after_fits =
      let before = setting_fits h false first whole in
      record {
        page = before.page;
        original = before.original;
        address = omega (arith, places.ends, places.short);
        size = omega (arith, places.ends, places.short);
      }

  count-few : s.count < revision_limit
  count-few = omega (arith, right.count, right.few)

  whole-reads : WholeBack h' after locations
  whole-reads =
      whole_back h' after locations whole-there locations_long refl (omega (arith, count-few)) (omega (arith, whole.behind, places.whole-ends, places.pages, places.record-ends))
      (rw (same_header.long, long) committable.room)

  header-reads : (header_rows h' ≡ 0) × (count_at h' after.address ≡ after.count → setting_of h' ≡ after)
  header-reads = header_back h' after (header-stands with_whole after wide) (rw same_header.long wide) (rw (same_header.long, long) places.short) after_fits

  pub after-setting : setting_of h' ≡ after
  after-setting = header-reads.1 whole-reads.counted

  -- The locations that stood, and the new one.
  abbrev standing : List ℕ
  standing = part h (location_at s 1) (location_width * s.count)

  all_located : part h' (location_at after 1) (length locations) ≡ locations
  all_located = ap (λ (n : ℕ). part h' (location_at after 1) n) locations_long ∙ whole-reads.located

  old_located : part h' (location_at after 1) (location_width * s.count) ≡ standing
  old_located = rw standing_long at (first_piece h' (location_at after 1) standing (location_bytes f r.address r.size) all_located)

  new_located : (address_at f h' (location_at after (suc s.count)) ≡ r.address) × (located_size h' (location_at after (suc s.count)) ≡ r.size)
      × (sum_stands h' (location_at after (suc s.count)) 16 (location_at after (suc s.count) + 16) ≡ true)
  new_located =
      let at : ℕ = location_at after (suc s.count) in
      let e : location_at after 1 + length standing ≡ at = rw standing_long (omega arith) in
      location_back f h' at r.address r.size
      (rw (length-location_bytes f r.address r.size) at (next_piece h' (location_at after 1) standing (location_bytes f r.address r.size) all_located at e))
      (omega (arith, places.record-ends, places.ends, places.short)) (omega (arith, places.record-ends, places.ends, places.short))

  locations-sum : sums_stand location_width 16 h' (location_at after 1) after.count ≡ true
  locations-sum =
      let turned : (n : ℕ) → n * location_width ≡ location_width * n = λ n. omega arith in
      let e : location_at after 1 + s.count * location_width ≡ location_at after (suc s.count) = omega arith in
      let old = sums_moved location_width 16 h h' (omega arith) (omega arith) s.count (location_at s 1) (location_at after 1) (rw (turned s.count) old_located) in
      ap (λ (n : ℕ). sums_stand location_width 16 h' (location_at after 1) n) (add-one s.count)
      ∙ sums_more location_width 16 h' s.count (location_at after 1)
      ∙ rw (old, whole-summed h s w.whole, e) new_located.2

  -- ---- The revisions that stood

  grown : Grown h s h' after
  grown = record {
    form = refl;
    original = refl;
    ahead = omega (arith, places.whole-ends, places.pages, places.record-ends);
    same = same-within header_width s.address stands (omega arith) (omega (arith, places.whole-ends, places.pages));
    located = λ k low high.
        let to : location_at after 1 + location_width * (k - 1) ≡ location_at after k = omega arith in
        let at : location_at s 1 + location_width * (k - 1) ≡ location_at s k = omega arith in
        rw (to, at) at (part-inside h h' (location_at s 1) (location_at after 1) (location_width * s.count) old_located (location_width * (k - 1)) 16 (omega arith));
  }

  old-stored : (k : ℕ) → k < length vs → Stored original h' after k (get_or vs k nothing)
  old-stored k m = stored-grown grown original k (get_or vs k nothing) (some-page w) (omega (arith, w.counted)) (w.stored k m)

  -- ---- The merged index, entry by entry

  -- The session's page k: its address, and that it lies between the committed end and the record.
  own-page : (k : ℕ) → k < length (own_pages st) → (get_or (own_pages st) k 0 % f.page ≡ 0) × (get_or (own_pages st) k 0 < st.size) × (st.end + (0 + k) * f.page + f.page ≤ r.address)
  own-page k m =
      let fit = page_fits f.page st.size (own_pages st) right.pages k m in
      (fit.0, fit.1, omega (arith, page_lies k st.n f.page (omega (arith, own_long)), ap (λ (i : ℕ). i * f.page) (zero-add k)))

  parents : IndexRight h s st.parent
  parents = index-right h s st.parent stored.rows

  old-ahead : (k : ℕ) → k < length index → (get_or index k no_entry).physical + f.page ≤ r.address
  old-ahead k m = omega (arith, parents.ahead k m, places.whole-ends, places.pages)

  merged-right : (k : ℕ) → k < length merged → EntryRight after r (get_or merged k no_entry)
  unfolding merged_index
  merged-right = put_all-all (λ e. EntryRight after r e) (own_entry h f.page st.end) 0 (own_pages st) index
      (λ k m. let z = own-page k m in record { multiple = z.0; below = z.1; behind_empty = omega (arith, places.empty); ahead = z.2 })
      (λ k m. let z = parents.right k m in record { multiple = z.multiple; below = omega (arith, z.below, parent-size w o); behind_empty = z.behind_empty; ahead = old-ahead k m })

  -- A checksum that is right fits in four bytes.
  sum-small : (e : Entry) → page_sum_wrong h f.page e ≡ false → e.checksum < 2 ^ 32
  unfolding page_sum_wrong
  sum-small e t = rw (eqb-true e.checksum (checksum (part h e.physical f.page)) (not-false _ t)) (checksum_less (part h e.physical f.page))

  near : r.address ≤ limit
  near = omega (arith, places.record-ends, places.ends, places.short)

  merged_fits : (k : ℕ) → k < length merged → EntryFits (get_or merged k no_entry)
  unfolding merged_index
  merged_fits = put_all-all (λ e. EntryFits e) (own_entry h f.page st.end) 0 (own_pages st) index
      (λ k m. let z = own-page k m in record { logical = omega (arith, z.1, right.small); physical = omega (arith, z.2, near); checksum = checksum_less _ })
      (λ k m. record {
        logical = omega (arith, (parents.right k m).below, parent-size w o, right.small);
        physical = omega (arith, old-ahead k m, near);
        checksum = sum-small (get_or index k no_entry) (stored.sums k m);
      })

  old_lie : Lie header_width s.address f.page index
  old_lie = pages_lie h s st.parent stored.rows

  merged_sums : (k : ℕ) → k < length merged → page_sum_wrong h' f.page (get_or merged k no_entry) ≡ false
  unfolding merged_index page_sum_wrong
  merged_sums = put_all-all (λ e. page_sum_wrong h' f.page e ≡ false) (own_entry h f.page st.end) 0 (own_pages st) index
      (λ k m. rw (part_same stands (st.end + (0 + k) * f.page) f.page (omega (arith, places.header, places.whole-ends)) (own-page k m).2, eq-eqb (checksum (part h (st.end + (0 + k) * f.page) f.page)) _ refl))
      (λ k m. sum_same grown.same index old_lie k m ∙ stored.sums k m)

  rises : Rising (logicals merged)
  unfolding merged_index
  rises = rising-put_all (own_entry h f.page st.end) 0 (own_pages st) index parents.rises

  -- ---- The new record

  logical-most : (s.original ≤ st.size) × (st.size ≤ limit)
  logical-most = (omega (arith, (logical-right h s st.parent stored.rows (original-most w)).0, parent-size w o), right.small)

  page-small : f.page ≤ limit
  page-small = omega (arith, page-most f.page after_fits.page)

  back : RecordBack f h' r time merged name comment
  back =
      let c = committable in
      let t = logical-most in
      record_back f h' r time user merged name comment record-there refl refl refl refl sixteen (omega (arith, count-few)) (omega (arith, right.parent, right.few)) t.1 page-small
      (omega (arith, c.few)) (omega (arith, c.short_name)) (omega (arith, c.short_comment)) merged_fits

  new_record : record_of h' after (suc s.count) ≡ r
  unfolding record_of
  new_record = rw (new_located.0, new_located.1) back.fields

  new-right : RecordRight h' after (suc s.count) r
  unfolding record_fields
  new-right =
      let c = committable in
      let t = logical-most in
      record {
        lies = record {
          behind = omega (arith, places.empty, places.pages);
          ends = omega arith;
          sized = refl;
          few = c.few;
          named = c.short_name;
          commented = c.short_comment;
        };
        fields = rw (
          back.signed,
          back.versioned,
          eq-eqb (s.count + 1) (suc s.count) (add-one s.count),
          lt-ltb st.parent (suc s.count) (omega (arith, right.parent, right.count)),
          back.timed,
          c.timed,
          le-leb _ _ t.0,
          le-leb _ _ t.1,
          eq-eqb f.page f.page refl,
        );
        entries = rw back.indexed (right_entries after r merged rises merged-right);
        named = rw back.named c.named;
        commented = rw back.commented c.commented;
      }

  new_rows : record_rows h' after (suc s.count) ≡ 0
  new_rows = pass_rows h' after s.count (rw new_record new-right) (rw new_record back.summed)

  new_index : revision_index h' after (suc s.count) ≡ merged
  new_index = rw new_record back.indexed

  -- ---- The new revision

  abbrev v : Revision
  v = worked p (get_or vs l.parent nothing) l

  -- It shows what the session showed.
  merged_lie : Lie header_width r.address f.page merged
  merged_lie = record {
    behind = λ k m. omega (arith, (merged-right k m).behind_empty, empty-behind f);
    ahead = λ k m. (merged-right k m).ahead;
  }

  new-shown : (i : ℕ) → i < st.size → revision_byte original h' f.page merged i ≡ byte_at (noted_bytes vs l) i
  new-shown i m = byte-same stands merged merged_lie (some-page w) original i ∙ revision_merged original h s st index differ i ∙ o.shown i (inl m)

  -- An own page holds the session's bytes.
  page-bytes : (a : ℕ) → has (own_pages st) a ≡ true → part h (st.end + place_of a (own_pages st) * f.page) f.page ≡ tabulate f.page (λ j. byte_at (noted_bytes vs l) (a + j))
  page-bytes a t =
      let k : ℕ = place_of a (own_pages st) in
      let m : k < length (own_pages st) = ltb-true k (length (own_pages st)) t in
      let e : get_or (own_pages st) k 0 ≡ a = place_value a (own_pages st) m in
      let z = own-page k m in
      let there : st.end + k * f.page + f.page ≤ length h = omega (arith, z.2, ap (λ (i : ℕ). i * f.page) (zero-add k), places.record-ends, places.ends) in
      part-tabulate h (st.end + k * f.page) f.page there
      ∙ tabulate-same f.page _ _ (λ j q.
      let at = page-at f.page a j (rw e at z.0) q in
      let has-it : has (own_pages st) (page_of f.page (a + j)) ≡ true = rw at.0 t in
      sym (rw (at.0, at.1) at (shown_own original f.page index st.end h (own_pages st) (a + j) has-it))
      ∙ o.shown (a + j) (inr (rw w.page at has-it)))

  new-pages : (a : ℕ) → entry_afresh f.page merged [] a ≡ entry_afresh f.page v.given v.line a
  unfolding worked entry_afresh
  new-pages a =
      merged-page h s st index differ f.page a
      ∙ ⊎_elim
      (λ (t : has (own_pages st) a ≡ true). rw (t, rw o.own at t, page-bytes a t, o.began, o.own))
      (λ (t : has (own_pages st) a ≡ false). rw (t, rw o.own at t) (stored.pages a ∙ rw o.parent))
      (either (has (own_pages st) a))

  new-stored : Stored original h' after (suc s.count) v
  unfolding worked
  new-stored = record {
    rows = new_rows;
    size = rw new_record o.size;
    pages = rw new_index new-pages;
    sums = rw new_index merged_sums;
    shown = rw new_index (λ i m. new-shown i (omega (arith, o.size)));
  }

  -- ---- The history

  pub committed-holds : Holds original p (committed h s st merged time user name comment) (vs ++ (v ∷ []))
  unfolding committed
  committed-holds = record {
    header = header-reads.0;
    whole = rw after-setting (whole-reads.right locations-sum);
    lent = rw after-setting w.lent;
    page = rw after-setting w.page;
    counted = rw after-setting (rw length-append (omega (arith, w.counted)));
    stored = λ k m. rw after-setting (each k (rw length-append at m));
  }
    where
      each : (k : ℕ) → k < length vs + 1 → Stored original h' after k (get_or (vs ++ (v ∷ [])) k nothing)
      each k m = ⊎_elim
          (λ (t : ltb k (length vs) ≡ true).
          let n = ltb-true k (length vs) t in
          rw (get_or-append vs (v ∷ []) nothing k n) (old-stored k n))
          (λ (t : ltb k (length vs) ≡ false).
          let e : k ≡ length vs = omega (arith, ltb-false k (length vs) t) in
          let c : length vs ≡ suc s.count = omega (arith, w.counted) in
          rw (e, get_or-append_seam vs v [] nothing, c) new-stored)
          (either (ltb k (length vs)))

  -- Nothing from the header up to the committed end has changed.
  pub committed-same : Same header_width (committed_end s) h (committed h s st merged time user name comment)
  unfolding committed
  committed-same = same-within header_width (committed_end s) stands (omega arith) (omega (arith, right.end, places.pages))

  pub committed-end : committed_end s ≤ committed_end (setting_of (committed h s st merged time user name comment))
  unfolding committed
  committed-end = rw after-setting (omega (arith, right.end, places.pages, places.record-ends, end-behind f after.address after.size))
