-- Document 01, "Reading": the bytes of a revision and of a session, and the pages that a range shares bytes with.
use Rattle.std.specs.Prelude.{ℕ, zero, suc, ◌+◌, ◌*◌, ◌-◌, ◌/◌, ◌%◌, Bool, cond, List, [], ◌∷◌, map, ltb, eqb, length, take, get_or}
use Rattle.rules.specs.Bytes.{byte_at, tabulate}
use Rattle.rules.specs.declared.Setting.{Setting}
use Rattle.rules.specs.declared.Entry.{Entry}
use Rattle.rules.specs.declared.State.{State}

-- ---- Places in a list of page addresses

-- The place of the first number that is a; the list's length where there is none.
unfoldable pub place_of : ℕ → List ℕ → ℕ
place_of a [] = 0
place_of a (x ∷ xs) = cond (eqb x a) 0 (suc (place_of a xs))

abbrev pub has : List ℕ → ℕ → Bool
has xs a = ltb (place_of a xs) (length xs)

-- ---- The index of a revision

abbrev pub no_entry : Entry
no_entry = record { logical = 0; physical = 0; checksum = 0 }

abbrev pub logicals : List Entry → List ℕ
logicals index = map (λ (e : Entry). e.logical) index

abbrev pub has_page : List Entry → ℕ → Bool
has_page index a = has (logicals index) a

-- The entry of the page at logical address a.
abbrev pub entry_of : List Entry → ℕ → Entry
entry_of index a = get_or index (place_of a (logicals index)) no_entry

-- ---- The bytes of a revision

-- The address of the page that byte i lies in.
abbrev pub page_of : ℕ → ℕ → ℕ
page_of p i = i / p * p

-- "Byte i of a revision, below its logical size, is the byte of the stored page if the index has i's page, else byte i of the
-- original, else zero."
unfoldable pub revision_byte : List ℕ → List ℕ → ℕ → List Entry → ℕ → ℕ
revision_byte original history p index i =
    cond (has_page index (page_of p i)) (byte_at history ((entry_of index (page_of p i)).physical + i % p)) (byte_at original i)

-- "A read fills its lent buffer entirely": n bytes from an offset.
abbrev pub revision_bytes : List ℕ → List ℕ → ℕ → List Entry → ℕ → ℕ → List ℕ
revision_bytes original history p index at n = tabulate n (λ j. revision_byte original history p index (at + j))

-- ---- The bytes of a session

-- The session's own pages, in the order of first touch.
abbrev pub own_pages : State → List ℕ
own_pages st = take st.n st.pages

-- Where own page i lies: behind the committed end and the own pages ahead of it.
abbrev pub own_address : Setting → State → ℕ → ℕ
own_address s st i = st.end + i * s.form.page

-- "A session reads its own pages first": byte i where own pages lie from an end on, of a session whose parent has the index;
unfoldable pub shown_byte : List ℕ → List ℕ → ℕ → List Entry → ℕ → List ℕ → ℕ → ℕ
shown_byte original history p index end own i =
    let a = page_of p i in
    cond (has own a) (byte_at history (end + place_of a own * p + i % p)) (revision_byte original history p index i)

-- of the session.
abbrev pub session_byte : List ℕ → List ℕ → Setting → State → List Entry → ℕ → ℕ
session_byte original history s st index i =
    shown_byte original history s.form.page index st.end (own_pages st) i

abbrev pub session_bytes : List ℕ → List ℕ → Setting → State → List Entry → ℕ → ℕ → List ℕ
session_bytes original history s st index at n = tabulate n (λ j. session_byte original history s st index (at + j))

-- ---- The pages of a range

-- m pages from address a on.
unfoldable pub pages_from : ℕ → ℕ → ℕ → List ℕ
pages_from p a zero = []
pages_from p a (suc m) = a ∷ pages_from p (a + p) m

-- How many pages the n bytes from an offset share a byte with: none if there are no bytes, else from the first byte's to the last's.
unfoldable pub pages_in : ℕ → ℕ → ℕ → ℕ
pages_in p at zero = 0
pages_in p at (suc n) = (at + n) / p - at / p + 1

-- Each page that they share a byte with, in rising order.
abbrev pub pages_shared : ℕ → ℕ → ℕ → List ℕ
pages_shared p at n = pages_from p (page_of p at) (pages_in p at n)
