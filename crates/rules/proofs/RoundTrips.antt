-- What is written is read back: the fields of header, whole history, location, record and entry from the bytes that were made of them.
use mathlib.Core.Path.{◌≡◌, refl, sym, ◌∙◌}
use mathlib.Core.Bool.{Bool, true, false, cond}
use mathlib.Core.List.{List, [], ◌∷◌, ◌++◌}
use Prim.Native.Nat.{ℕ, suc, ◌+◌, ◌*◌, ◌-◌, ◌/◌, ◌%◌, ◌^◌, ◌≤◌, ◌<◌}
use native.Mathlib.Nat.{add-zero}
use native.Mathlib.Omega.{arith}
use lib.Dec.{eqb, ltb}
use lib.ListN.{length, get_or, length-append}
use lib.Seq.{take_at, drop_at, take-length}
use borrow.Author.Tests.{eq-eqb, le-leb, le-ltb}
use Rattle.rules.specs.Bytes.{byte_at, part, number_at, number_bytes, same}
use Rattle.rules.specs.Checksum.{checksum}
use Rattle.rules.specs.Layout.{
  page_allowed,
  limit,
  revision_limit,
  header_signature,
  whole_signature,
  record_signature,
  summed,
  sum_stands,
  sums_stand,
  version,
  address_at,
  address_bytes,
  page_sum_bytes,
  entry_sum_at,
  entry_width,
  entries_width,
  user_bytes,
  entry_count_at,
  name_size_at,
  comment_size_at,
  front_width,
  version_bytes,
  start_bytes,
  flags_of,
  header_width,
  header_front,
  header_bytes,
  form_of,
  setting_with,
  setting_of,
  committed_end,
  whole_size,
  whole_bytes,
  location_width,
  location_bytes,
  location_at,
  header_end,
  entry_bytes,
  index_bytes,
  entry_at,
  entries_at,
  record_size,
  front_bytes,
  record_bytes,
  record_at,
  time_of,
  index_of,
  name_at,
  name_of,
  comment_of,
  count_at,
  located_size,
}
use Rattle.rules.specs.View.{no_entry}
use Rattle.rules.specs.Rows.{length_wrong, header_wrong, header_sum_wrong, whole_wrong, record_sum_wrong}
use Rattle.rules.specs.Calls.{row, ◌then◌, header_rows}
use Rattle.rules.specs.declared.Form.{Form}
use Rattle.rules.specs.declared.Setting.{Setting}
use Rattle.rules.specs.declared.Record.{Record}
use Rattle.rules.specs.declared.Entry.{Entry}
use Rattle.rules.proofs.Bytes.{byte-part, part-part, length-number_bytes, value-number_bytes, same_self}
use Rattle.rules.proofs.Checksum.{checksum_less}
use Rattle.rules.proofs.Places.{length-address_bytes, address_back, length-page_sum_bytes, page-sum_back, length-user_bytes}
use Rattle.rules.proofs.Entries.{length-entry_bytes, length-index_bytes}
use Rattle.rules.proofs.Headers.{page-most}

-- ---- pieces

-- A piece stands at an address.
abbrev pub Stands : List ℕ → ℕ → List ℕ → Type 0
Stands xs at ys = part xs at (length ys) ≡ ys

-- Of two pieces that stand one behind the other, the first stands where they start, and the second where the first ends.
module _ (xs : List ℕ) (at : ℕ) (ys zs : List ℕ) (stands : Stands xs at (ys ++ zs)) where
  long : length (ys ++ zs) ≡ length ys + length zs
  long = length-append ys zs

  pub first_piece : Stands xs at ys
  first_piece =
      sym (rw add-zero at (part-part xs at (length (ys ++ zs)) 0 (length ys) (omega (arith, long))))
      ∙ rw stands (take_at ys zs (length ys) refl)

  pub next_piece : (at' : ℕ) → at + length ys ≡ at' → Stands xs at' zs
  next_piece at' e =
      rw (← e) (sym (part-part xs at (length (ys ++ zs)) (length ys) (length zs) (omega (arith, long)))
      ∙ rw stands (rw (drop_at ys zs (length ys) refl) (take-length zs)))

-- A number that fits is read where its bytes stand.
number_back : (n : ℕ) (xs : List ℕ) (at v : ℕ) → Stands xs at (number_bytes n v) → v < 256 ^ n → number_at n xs at ≡ v
number_back n xs at v e h = let p : part xs at n ≡ number_bytes n v = rw (length-number_bytes n v) at e in rw p (value-number_bytes n v h)

-- So is a checksum, and it is that of the bytes it was made of.
sum_back : (xs : List ℕ) (at n sum_at : ℕ) (bytes : List ℕ) → part xs at n ≡ bytes
    → Stands xs sum_at (number_bytes 4 (checksum bytes)) → sum_stands xs at n sum_at ≡ true
unfolding sum_stands
sum_back xs at n sum_at bytes e p = eq-eqb _ _ (number_back 4 xs sum_at (checksum bytes) p (checksum_less bytes) ∙ rw e)

-- The checksum adds four bytes.
pub length-summed : (bytes : List ℕ) → length (summed bytes) ≡ length bytes + 4
unfolding summed
length-summed bytes = simp (length-append, length-number_bytes)

-- ---- entries

-- The bytes of an entry's fields fit.
pub record EntryFits (e : Entry) : Type 0 where
  pub logical : e.logical ≤ limit
  pub physical : e.physical ≤ limit
  pub checksum : e.checksum < 2 ^ 32

module _ (f : Form) (xs : List ℕ) where
  -- Its own checksum ends an entry, its page's stands ahead of that, and ahead of both its two addresses.
  module _ (at : ℕ) (e : Entry) (stands : Stands xs at (entry_bytes f e)) where
    abbrev place : List ℕ
    place = number_bytes 8 e.logical ++ address_bytes f e.physical

    place_long : length place ≡ 16
    place_long = simp (length-append, length-number_bytes, length-address_bytes f e.physical)

    sum_place : at + length (place ++ page_sum_bytes f e.checksum) ≡ at + entry_sum_at f
    sum_place = rw length-append (omega (arith, place_long, length-page_sum_bytes f e.checksum))

    unsummed : Stands xs at (place ++ page_sum_bytes f e.checksum)
    unfolding entry_bytes
    unsummed = first_piece xs at _ (number_bytes 4 (checksum place)) stands

    placed : Stands xs at place
    placed = first_piece xs at place _ unsummed

    entry_back : EntryFits e → entry_at f xs at ≡ e
    entry_back fits =
        let a = number_back 8 xs at e.logical (first_piece xs at _ _ placed) (omega (arith, fits.logical)) in
        let p8 = next_piece xs at (number_bytes 8 e.logical) (address_bytes f e.physical) placed (at + 8) (rw length-number_bytes) in
        let b = address_back f xs (at + 8) e.physical (rw (length-address_bytes f e.physical) at p8) fits.physical in
        let c = page-sum_back f xs at e.checksum (next_piece xs at place _ unsummed (at + 16) (rw place_long)) fits.checksum in
        rw (a, b, c)

    entry-sum_back : sum_stands xs at 16 (at + entry_sum_at f) ≡ true
    unfolding entry_bytes
    entry-sum_back =
        sum_back xs at 16 (at + entry_sum_at f) place (rw place_long at placed)
        (next_piece xs at (place ++ page_sum_bytes f e.checksum) (number_bytes 4 (checksum place)) stands (at + entry_sum_at f) sum_place)

pub entries_back : (f : Form) (xs : List ℕ) (at : ℕ) (index : List Entry) → part xs at (length (index_bytes f index)) ≡ index_bytes f index
    → ((k : ℕ) → k < length index → EntryFits (get_or index k no_entry))
    → (entries_at f xs at (length index) ≡ index) × (sums_stand (entry_width f) (entry_sum_at f) xs at (length index) ≡ true)
unfolding index_bytes entries_at sums_stand
entries_back f xs at [] stands fits = (refl, refl)
entries_back f xs at (e ∷ index) stands fits =
    let first = first_piece xs at (entry_bytes f e) (index_bytes f index) stands in
    let next = next_piece xs at (entry_bytes f e) (index_bytes f index) stands (at + entry_width f) (rw (length-entry_bytes f e)) in
    let rest = entries_back f xs (at + entry_width f) index next (λ k l. fits (suc k) (omega arith)) in
    (rw (entry_back f xs at e first (fits 0 (omega arith)), rest.0), rw (entry-sum_back f xs at e first, rest.1))

-- ---- locations

pub length-location_bytes : (f : Form) (a size : ℕ) → length (location_bytes f a size) ≡ location_width
unfolding location_bytes
length-location_bytes f a size = length-summed _ ∙ simp (length-append, length-number_bytes, length-address_bytes f a)

pub location_back : (f : Form) (xs : List ℕ) (at a size : ℕ) → part xs at location_width ≡ location_bytes f a size → a ≤ limit → size ≤ limit
    → (address_at f xs at ≡ a) × (located_size xs at ≡ size) × (sum_stands xs at 16 (at + 16) ≡ true)
unfolding location_bytes summed
location_back f xs at a size e ha hs =
    let place : List ℕ = address_bytes f a ++ number_bytes 8 size in
    let long : length place ≡ 16 = simp (length-append, length-number_bytes, length-address_bytes f a) in
    let stands : Stands xs at (location_bytes f a size) = rw (length-location_bytes f a size) e in
    let placed : Stands xs at place = first_piece xs at place _ stands in
    let p8 : part xs at 8 ≡ address_bytes f a = rw (length-address_bytes f a) at (first_piece xs at (address_bytes f a) (number_bytes 8 size) placed) in
    let sized = next_piece xs at (address_bytes f a) (number_bytes 8 size) placed (at + 8) (rw (length-address_bytes f a)) in (
      address_back f xs at a p8 ha,
      number_back 8 xs (at + 8) size sized (omega arith),
      sum_back xs at 16 (at + 16) place (rw long at placed) (next_piece xs at place (number_bytes 4 (checksum place)) stands (at + 16) (rw long)),
    )

-- ---- the header

pub record SettingFits (s : Setting) : Type 0 where
  pub page : page_allowed s.form.page ≡ true
  pub original : s.original ≤ limit
  pub address : s.address ≤ limit
  pub size : s.size ≤ limit

-- The two flags are read back from their bits, and the others are zero.
record FlagsBack (v : ℕ) (lock branching : Bool) : Type 0 where
  bytes : number_bytes 3 v ≡ v ∷ 0 ∷ 0 ∷ []
  few : ltb v 4 ≡ true
  locks : eqb (v % 2) 1 ≡ lock
  branches : eqb (v / 2 % 2) 1 ≡ branching

flags_back : (lock branching : Bool) → FlagsBack (cond lock 1 0 + cond branching 2 0) lock branching
unfolding number_bytes
flags_back true true = record { bytes = refl; few = refl; locks = refl; branches = refl }
flags_back true false = record { bytes = refl; few = refl; locks = refl; branches = refl }
flags_back false true = record { bytes = refl; few = refl; locks = refl; branches = refl }
flags_back false false = record { bytes = refl; few = refl; locks = refl; branches = refl }

pub front_long : (s : Setting) → length (header_front s) ≡ header_width - 4
unfolding header_front number_bytes
front_long s = simp (length-append, length-address_bytes)

pub length-header_bytes : (s : Setting) → length (header_bytes s) ≡ header_width
unfolding header_bytes
length-header_bytes s = length-summed _ ∙ omega (arith, front_long s)

-- Its checksum ends the header, and ahead of that its fields stand one behind the other.
module _ (xs : List ℕ) (s : Setting) (stands : part xs 0 header_width ≡ header_bytes s) (fits : SettingFits s) where
  -- The bytes up to the flags, and up to the original's length.
  abbrev flags : List ℕ
  flags = header_signature ++ (version s.form ∷ []) ++ number_bytes 3 (flags_of s)

  abbrev originals : List ℕ
  originals = flags ++ number_bytes 4 s.form.page ++ number_bytes 8 s.original

  header-stands : Stands xs 0 (header_bytes s)
  header-stands = rw (length-header_bytes s) stands

  front_back : Stands xs 0 (header_front s)
  unfolding header_bytes summed
  front_back = first_piece xs 0 (header_front s) _ header-stands

  header-sum_back : header_sum_wrong xs ≡ false
  unfolding header_bytes summed header_sum_wrong
  header-sum_back =
      rw (sum_back xs 0 36 36 (header_front s) (rw (front_long s) at front_back)
      (next_piece xs 0 (header_front s) _ header-stands 36 (rw (front_long s))))

  -- The size and the address,
  located : Stands xs 0 (originals ++ address_bytes s.form s.address)
  unfolding header_front
  located = first_piece xs 0 _ (number_bytes 8 s.size) front_back

  size_back : number_at 8 xs 28 ≡ s.size
  unfolding header_front number_bytes
  size_back =
      number_back 8 xs 28 s.size (next_piece xs 0 (originals ++ address_bytes s.form s.address) _ front_back 28
      (simp (length-append, length-address_bytes s.form s.address))) (omega (arith, fits.size))

  address_read : address_at s.form xs 20 ≡ s.address
  unfolding number_bytes
  address_read =
      let p = next_piece xs 0 originals _ located 20 refl in
      address_back s.form xs 20 s.address (rw (length-address_bytes s.form s.address) at p) fits.address

  -- the original's length and the page size,
  measured : Stands xs 0 originals
  measured = first_piece xs 0 originals _ located

  original_back : number_at 8 xs 12 ≡ s.original
  unfolding number_bytes
  original_back = number_back 8 xs 12 s.original (next_piece xs 0 (flags ++ number_bytes 4 s.form.page) _ measured 12 refl) (omega (arith, fits.original))

  paged : Stands xs 0 (flags ++ number_bytes 4 s.form.page)
  paged = first_piece xs 0 _ (number_bytes 8 s.original) measured

  page_back : number_at 4 xs 8 ≡ s.form.page
  unfolding number_bytes
  page_back = number_back 4 xs 8 s.form.page (next_piece xs 0 flags _ paged 8 refl) (omega (arith, page-most s.form.page fits.page))

  -- and the flags, the version and the signature.
  flagged : Stands xs 0 flags
  flagged = first_piece xs 0 flags _ paged

  flag_back : (i : ℕ) → i < 3 → byte_at xs (5 + i) ≡ get_or (flags_of s ∷ 0 ∷ 0 ∷ []) i 0
  unfolding flags_of
  flag_back i h =
      let e : part xs 5 3 ≡ flags_of s ∷ 0 ∷ 0 ∷ [] =
      rw (length-number_bytes 3 (flags_of s)) at (next_piece xs 0 (header_signature ++ (version s.form ∷ [])) (number_bytes 3 (flags_of s)) flagged 5 refl)
      ∙ (flags_back s.lock s.branching).bytes in
      sym (byte-part xs 5 3 i h) ∙ rw e

  started : part xs 0 5 ≡ header_signature ++ (version s.form ∷ [])
  started = first_piece xs 0 _ (number_bytes 3 (flags_of s)) flagged

  version_back : byte_at xs 4 ≡ version s.form
  version_back =
      let e : part xs 4 1 ≡ version s.form ∷ [] = next_piece xs 0 header_signature (version s.form ∷ []) started 4 refl in
      sym (byte-part xs 4 1 0 (omega arith)) ∙ rw e

  signature_back : part xs 0 4 ≡ header_signature
  signature_back = first_piece xs 0 header_signature (version s.form ∷ []) started

  form_back : form_of xs ≡ s.form
  form_back = rw page_back

  header-right : header_wrong xs ≡ false
  unfolding header_wrong flags_of
  header-right =
      rw (form_back, signature_back, version_back, flag_back 0 (omega arith), flag_back 1 (omega arith), flag_back 2 (omega arith), page_back, original_back)
      (rw (eq-eqb (version s.form) _ refl, (flags_back s.lock s.branching).few, fits.page, le-leb _ _ fits.original))

  setting_back : count_at xs s.address ≡ s.count → setting_of xs ≡ s
  unfolding setting_of setting_with flags_of
  setting_back counted =
      rw (form_back, address_read, counted, original_back, size_back, flag_back 0 (omega arith), (flags_back s.lock s.branching).locks, (flags_back s.lock s.branching).branches)

  header_rows_lem : header_width ≤ length xs → length xs ≤ limit → header_rows xs ≡ 0
  unfolding header_rows length_wrong row ◌then◌
  header_rows_lem l m = rw (le-ltb _ _ l, le-ltb _ _ m, header-right, header-sum_back)

-- Rows 1, 2 and 3 pass, and its fields are read back; the count stands in the whole history.
pub header_back : (xs : List ℕ) (s : Setting) → part xs 0 header_width ≡ header_bytes s → header_width ≤ length xs → length xs ≤ limit → SettingFits s
    → (header_rows xs ≡ 0) × (count_at xs s.address ≡ s.count → setting_of xs ≡ s)
header_back xs s stands l m fits = (header_rows_lem xs s stands fits l m, setting_back xs s stands fits)

-- ---- how whole history and record start

pub length-start : (f : Form) (signature : List ℕ) (number : ℕ) → length signature ≡ 4 → length (start_bytes f signature number) ≡ 16
unfolding start_bytes
length-start f signature number wide = simp (length-append, length-number_bytes, wide)

module _ (f : Form) (xs : List ℕ) (at : ℕ) (signature : List ℕ) (number : ℕ) (wide : length signature ≡ 4)
    (stands : Stands xs at (start_bytes f signature number)) where
  start-front : Stands xs at (signature ++ version_bytes f)
  unfolding start_bytes
  start-front = first_piece xs at _ (number_bytes 8 number) stands

  start_signed : same (part xs at 4) signature ≡ true
  start_signed =
      let e : part xs at 4 ≡ signature = rw wide at (first_piece xs at signature _ start-front) in
      rw e (same_self signature)

  start_versioned : same (part xs (at + 4) 4) (version_bytes f) ≡ true
  start_versioned =
      let e : part xs (at + 4) 4 ≡ version_bytes f = next_piece xs at signature (version_bytes f) start-front (at + 4) (rw wide) in
      rw e (same_self (version_bytes f))

  start_numbered : number ≤ limit → number_at 8 xs (at + 8) ≡ number
  unfolding start_bytes
  start_numbered h =
      number_back 8 xs (at + 8) number (next_piece xs at (signature ++ version_bytes f) (number_bytes 8 number) stands (at + 8) (simp (length-append, wide))) (omega arith)

-- ---- the whole history

unsummed_long : (f : Form) (n : ℕ) (locations : List ℕ) → length locations ≡ location_width * n → length (start_bytes f whole_signature n ++ locations) ≡ 16 + 20 * n
unsummed_long f n locations e = rw (length-append, length-start f whole_signature n refl, e)

pub length-whole_bytes : (f : Form) (n : ℕ) (locations : List ℕ) → length locations ≡ location_width * n → length (whole_bytes f n locations) ≡ whole_size n
unfolding whole_bytes
length-whole_bytes f n locations e = length-summed _ ∙ omega (arith, unsummed_long f n locations e)

pub record WholeBack (xs : List ℕ) (s : Setting) (locations : List ℕ) : Type 0 where
  pub counted : count_at xs s.address ≡ s.count
  pub located : part xs (location_at s 1) (location_width * s.count) ≡ locations
  -- row 5, once the locations' checksums stand
  pub right : sums_stand location_width 16 xs (location_at s 1) s.count ≡ true → whole_wrong xs s ≡ false

-- Its checksum ends it, the locations stand ahead of that, and ahead of them its start.
pub whole_back : (xs : List ℕ) (s : Setting) (locations : List ℕ) → part xs s.address s.size ≡ whole_bytes s.form s.count locations
    → length locations ≡ location_width * s.count → s.size ≡ whole_size s.count → s.count ≤ revision_limit
    → header_end s.form ≤ s.address → committed_end s ≤ length xs → WholeBack xs s locations
unfolding whole_bytes summed whole_wrong
whole_back xs s locations e long sized few low high =
    let f : Form = s.form in
    let at : ℕ = s.address in
    let start : List ℕ = start_bytes f whole_signature s.count in
    let spot : at + 16 ≡ location_at s 1 = omega arith in
    let span : length (start ++ locations) ≡ s.size - 4 = unsummed_long f s.count locations long ∙ omega arith in
    let stands : Stands xs at (whole_bytes f s.count locations) = rw (length-whole_bytes f s.count locations long, ← sized) e in
    let inner : Stands xs at (start ++ locations) = first_piece xs at (start ++ locations) _ stands in
    let begun : Stands xs at start = first_piece xs at start locations inner in
    let there = next_piece xs at start locations inner (location_at s 1) (rw (length-start f whole_signature s.count refl) spot) in
    let sum = sum_back xs at (s.size - 4) (at + (s.size - 4)) (start ++ locations) (rw span at inner)
    (next_piece xs at (start ++ locations) _ stands (at + (s.size - 4)) (rw span)) in
    record {
      counted = start_numbered f xs at whole_signature s.count refl begun (omega arith);
      located = rw long at there;
      right = λ sums.
          rw (le-leb _ _ low, le-leb _ _ high, eq-eqb _ _ sized, le-leb _ _ few)
          (rw (start_signed f xs at whole_signature s.count refl begun, start_versioned f xs at whole_signature s.count refl begun, sum, sums));
    }

-- ---- a record

module _ (f : Form) (r : Record) (time : List ℕ) (user : ℕ) (sixteen : length time ≡ 16) where
  -- The bytes up to the time, and up to the page size.
  abbrev descent : List ℕ
  descent = start_bytes f record_signature r.revision ++ number_bytes 8 r.parent ++ time

  abbrev sizes : List ℕ
  sizes = descent ++ number_bytes 8 r.logical ++ number_bytes 4 r.page

  descent_long : length descent ≡ 40
  descent_long = simp (length-append, length-number_bytes, length-start f record_signature r.revision refl, sixteen)

  sizes_long : length sizes ≡ 52
  sizes_long = simp (length-append, length-number_bytes, length-start f record_signature r.revision refl, sixteen)

  counts_long : length (sizes ++ user_bytes f user) ≡ entry_count_at f
  counts_long = rw (length-append, sizes_long) (length-user_bytes f user)

  pub record-front_long : length (front_bytes f r time user) ≡ front_width f
  unfolding front_bytes
  record-front_long = rw (length-append, length-append, length-append, counts_long, length-number_bytes, length-number_bytes, length-number_bytes) (omega arith)

  -- The fields of the front, piece ahead of piece.
  module _ (xs : List ℕ) (stands : Stands xs r.address (front_bytes f r time user)) where
    abbrev at : ℕ
    at = r.address

    to_name : Stands xs at (sizes ++ user_bytes f user ++ number_bytes 8 r.entries ++ number_bytes 4 r.name)
    unfolding front_bytes
    to_name = first_piece xs at _ (number_bytes 4 r.comment) stands

    to_entries : Stands xs at (sizes ++ user_bytes f user ++ number_bytes 8 r.entries)
    to_entries = first_piece xs at _ (number_bytes 4 r.name) to_name

    to-page : Stands xs at sizes
    to-page = first_piece xs at sizes (user_bytes f user) (first_piece xs at _ (number_bytes 8 r.entries) to_entries)

    to_logical : Stands xs at (descent ++ number_bytes 8 r.logical)
    to_logical = first_piece xs at _ (number_bytes 4 r.page) to-page

    to_time : Stands xs at descent
    to_time = first_piece xs at descent _ to_logical

    to-parent : Stands xs at (start_bytes f record_signature r.revision ++ number_bytes 8 r.parent)
    to-parent = first_piece xs at _ time to_time

    to_start : Stands xs at (start_bytes f record_signature r.revision)
    to_start = first_piece xs at _ (number_bytes 8 r.parent) to-parent

    time_back : time_of xs r ≡ time
    time_back =
        let e = next_piece xs at (start_bytes f record_signature r.revision ++ number_bytes 8 r.parent) time to_time (at + 24)
        (simp (length-append, length-number_bytes, length-start f record_signature r.revision refl)) in
        rw sixteen at e

    fields_back : r.revision ≤ limit → r.parent ≤ limit → r.logical ≤ limit → r.page ≤ limit → r.entries ≤ limit → r.name ≤ limit → r.comment ≤ limit
        → record_at f xs r.address r.size ≡ r
    unfolding record_at front_bytes
    fields_back a b c d e n m =
        let wide = length-start f record_signature r.revision refl in
        let revision = start_numbered f xs at record_signature r.revision refl to_start a in
        let parent = number_back 8 xs (at + 16) r.parent (next_piece xs at (start_bytes f record_signature r.revision) _ to-parent (at + 16) (rw wide)) (omega arith) in
        let logical = number_back 8 xs (at + 40) r.logical (next_piece xs at descent _ to_logical (at + 40) (rw descent_long)) (omega arith) in
        let page = number_back 4 xs (at + 48) r.page
        (next_piece xs at (descent ++ number_bytes 8 r.logical) _ to-page (at + 48) (rw (length-append, descent_long, length-number_bytes))) (omega arith) in
        let entries = number_back 8 xs (at + entry_count_at f) r.entries (next_piece xs at (sizes ++ user_bytes f user) _ to_entries (at + entry_count_at f) (rw counts_long)) (omega arith) in
        let name = number_back 4 xs (at + name_size_at f) r.name
        (next_piece xs at (sizes ++ user_bytes f user ++ number_bytes 8 r.entries) _ to_name (at + name_size_at f) (rw (length-append, counts_long, length-number_bytes))) (omega arith) in
        let comment = number_back 4 xs (at + comment_size_at f) r.comment
        (next_piece xs at (sizes ++ user_bytes f user ++ number_bytes 8 r.entries ++ number_bytes 4 r.name) _ stands (at + comment_size_at f)
        (rw (length-append, length-append, counts_long, length-number_bytes, length-number_bytes) (omega arith))) (omega arith) in
        rw (revision, parent, logical, page, entries, name, comment)

pub length-record_bytes : (f : Form) (r : Record) (time : List ℕ) (user : ℕ) (index : List Entry) (name comment : List ℕ) → length time ≡ 16
    → length (record_bytes f r time user index name comment) ≡ record_size f (length index) (length name) (length comment)
unfolding record_bytes
length-record_bytes f r time user index name comment sixteen =
    length-summed _ ∙ simp length-append (omega (arith, record-front_long f r time user sixteen, length-index_bytes f index))

pub record RecordBack (f : Form) (xs : List ℕ) (r : Record) (time : List ℕ) (index : List Entry) (name comment : List ℕ) : Type 0 where
  pub fields : record_at f xs r.address r.size ≡ r
  pub signed : same (part xs r.address 4) record_signature ≡ true
  pub versioned : same (part xs (r.address + 4) 4) (version_bytes f) ≡ true
  pub timed : time_of xs r ≡ time
  pub indexed : index_of xs f r ≡ index
  pub named : name_of xs f r ≡ name
  pub commented : comment_of xs f r ≡ comment
  pub summed : record_sum_wrong xs f r ≡ false

-- Its checksum ends it; ahead of that stand comment, name, entries and front.
pub record_back : (f : Form) (xs : List ℕ) (r : Record) (time : List ℕ) (user : ℕ) (index : List Entry) (name comment : List ℕ)
    → part xs r.address r.size ≡ record_bytes f r time user index name comment
    → r.size ≡ record_size f r.entries r.name r.comment → r.entries ≡ length index → r.name ≡ length name → r.comment ≡ length comment
    → length time ≡ 16 → r.revision ≤ limit → r.parent ≤ limit → r.logical ≤ limit → r.page ≤ limit → r.entries ≤ limit → r.name ≤ limit → r.comment ≤ limit
    → ((k : ℕ) → k < length index → EntryFits (get_or index k no_entry)) → RecordBack f xs r time index name comment
unfolding record_bytes summed record_sum_wrong
record_back f xs r time user index name comment whole sized i n m sixteen a b c d e g h fits =
    let at : ℕ = r.address in
    let front : List ℕ = front_bytes f r time user in
    let indexes : List ℕ = index_bytes f index in
    let wide : length front ≡ front_width f = record-front_long f r time user sixteen in
    let many : length indexes ≡ entries_width f r.entries = rw i (length-index_bytes f index) in
    let long : length (record_bytes f r time user index name comment) ≡ r.size = length-record_bytes f r time user index name comment sixteen ∙ rw (sized, i, n, m) in
    let stands : Stands xs at (record_bytes f r time user index name comment) = rw long whole in
    let span : length (front ++ indexes ++ name ++ comment) ≡ r.size - 4 = omega (arith, long, length-summed (front ++ indexes ++ name ++ comment)) in
    let inner : Stands xs at (front ++ indexes ++ name ++ comment) = first_piece xs at (front ++ indexes ++ name ++ comment) _ stands in
    let toName : Stands xs at (front ++ indexes ++ name) = first_piece xs at (front ++ indexes ++ name) comment inner in
    let toIndex : Stands xs at (front ++ indexes) = first_piece xs at (front ++ indexes) name toName in
    let toFront : Stands xs at front = first_piece xs at front indexes toIndex in
    let toStart = to_start f r time user sixteen xs toFront in
    let entries = entries_back f xs (at + front_width f) index (next_piece xs at front indexes toIndex (at + front_width f) (rw wide)) fits in
    let named = next_piece xs at (front ++ indexes) name toName (name_at f r) (rw (length-append, wide, many) (omega arith)) in
    let commented = next_piece xs at (front ++ indexes ++ name) comment inner (name_at f r + r.name) (rw (length-append, length-append, wide, many, n) (omega arith)) in
    let sum = sum_back xs at (r.size - 4) (at + (r.size - 4)) (front ++ indexes ++ name ++ comment) (rw span at inner)
    (next_piece xs at (front ++ indexes ++ name ++ comment) _ stands (at + (r.size - 4)) (rw span)) in
    record {
      fields = fields_back f r time user sixteen xs toFront a b c d e g h;
      signed = start_signed f xs at record_signature r.revision refl toStart;
      versioned = start_versioned f xs at record_signature r.revision refl toStart;
      timed = time_back f r time user sixteen xs toFront;
      indexed = rw i entries.0;
      named = rw n named;
      commented = rw m commented;
      summed = rw (sum, i, entries.1);
    }
