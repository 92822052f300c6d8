-- The whole text: the records' lines, one after the other, and the text in a lent buffer.
use mathlib.Core.Path.{◌≡◌, refl, sym, ap, ◌∙◌}
use mathlib.Core.List.{List, [], ◌++◌, append_assoc, append-nil}
use Prim.Native.Nat.{ℕ, zero, suc, ◌+◌, ◌*◌, ◌-◌, ◌≤◌, ◌<◌}
use native.Mathlib.Numerals.{add-one}
use native.Mathlib.Nat.{add-zero}
use native.Mathlib.Omega.{arith}
use lib.ListN.{length, length-append}
use borrow.Author.Tests.{le-leb}
use Rattle.rules.specs.Layout.{revision_limit, setting_of, record_of}
use Rattle.rules.specs.Calls.{record_rows, records_rows}
use Rattle.rules.specs.Listing.{decimal, newline, refused_word, setting_line, record_line, record_lines, list_rows, list_text, list}
use Rattle.rules.specs.declared.Setting.{Setting}
use Rattle.rules.specs.declared.Record.{Record}
use Rattle.rules.proofs.Bytes.{laid-nothing, length-laid}
use Rattle.rules.proofs.Rows.{left_alone}
use Rattle.listing.specs.Written.{record_most, Written, Counted, listed, fitted}
use Rattle.listing.proofs.Lines.{written_then}
use Rattle.listing.proofs.Passing.{RowsLeft, rows_start, rows_turn, rows-clear}

-- ---- The records' lines

lines_step : (h : List ℕ) (s : Setting) (k m : ℕ) → 0 < m → record_lines h s k m ≡ record_line h s.form (record_of h s k) ++ record_lines h s (suc k) (m - 1)
unfolding record_lines
lines_step h s k zero l = absurd (omega arith)
lines_step h s k (suc m) l = let e : suc m - 1 ≡ m = omega arith in rw e

-- The records ahead of k have passed, and their lines are done.
pub record LinesLeft (h : List ℕ) (s : Setting) (k : ℕ) (done : List ℕ) : Type 0 where
  pub rows : RowsLeft h s k
  pub all : record_lines h s 1 s.count ≡ done ++ record_lines h s k (s.count + 1 - k)

left-start : (h : List ℕ) (s : Setting) → LinesLeft h s 1 []
left-start h s = let e : s.count + 1 - 1 ≡ s.count = omega arith in record { rows = rows_start h s; all = rw e }

module _ {h : List ℕ} {s : Setting} {k : ℕ} {done : List ℕ} (l : LinesLeft h s k done) where
  left-all : k ≤ s.count → record_lines h s 1 s.count ≡ (done ++ record_line h s.form (record_of h s k)) ++ record_lines h s (k + 1) (s.count + 1 - (k + 1))
  left-all m =
      let e : s.count + 1 - k - 1 ≡ s.count + 1 - (k + 1) = omega arith in
      l.all ∙ rw (lines_step h s k (s.count + 1 - k) (omega arith), e, ← add-one k) (sym (append_assoc done _ _))

  left_turn : k ≤ s.count → record_rows h s k ≡ 0 → LinesLeft h s (k + 1) (done ++ record_line h s.form (record_of h s k))
  left_turn m z = record { rows = rows_turn l.rows m (sym z) refl; all = left-all m }

  left_end : s.count < k → record_lines h s 1 s.count ≡ done
  unfolding record_lines
  left_end m = let e : s.count + 1 - k ≡ 0 = omega arith in l.all ∙ rw e (append-nil done)

-- Their length so far.
pub record LinesCounted (h : List ℕ) (s : Setting) (k n : ℕ) : Type 0 where
  pub done : List ℕ
  pub left : LinesLeft h s k done
  pub many : length done ≡ n
  pub few : n + record_most ≤ k * record_most

pub count_turn : {h : List ℕ} {s : Setting} {k n : ℕ} {r : Record} (m : ℕ) → LinesCounted h s k n → k ≤ s.count → record_rows h s k ≡ 0 → r ≡ record_of h s k
    → m ≡ length (record_line h s.form r) → m ≤ record_most → LinesCounted h s (k + 1) (n + m)
count_turn m l i z e f b = record {
  done = _;
  left = left_turn l.left i z;
  many = rw (length-append, ← e, ← f) (omega (arith, l.many));
  few = omega (arith, l.few);
}

pub count-end : {h : List ℕ} {s : Setting} {k n : ℕ} → LinesCounted h s k n → s.count < k → s.count ≤ revision_limit → Counted h s n
count-end l m b = record { all = rw (left_end l.left m) (sym l.many); few = omega (arith, l.few, l.left.rows.within) }

-- What is written so far.
pub record LinesWritten (h : List ℕ) (s : Setting) (before : List ℕ) (at k : ℕ) (now : List ℕ) (next : ℕ) : Type 0 where
  pub clear : records_rows h s 1 s.count ≡ 0
  pub room : at + length (record_lines h s 1 s.count) ≤ length before
  pub done : List ℕ
  pub left : LinesLeft h s k done
  pub written : Written before at done now next

pub written_start : (h : List ℕ) (s : Setting) (before : List ℕ) (at : ℕ) → at + length (record_lines h s 1 s.count) ≤ length before → records_rows h s 1 s.count ≡ 0
    → LinesWritten h s before at 1 before at
written_start h s before at m z = record {
  clear = z;
  room = m;
  done = [];
  left = left-start h s;
  written = record { bytes = sym (laid-nothing before at); next = sym (add-zero at) };
}

module _ {h : List ℕ} {s : Setting} {before : List ℕ} {at k : ℕ} {now : List ℕ} {next : ℕ} (l : LinesWritten h s before at k now next) where
  within : at + length l.done ≤ length before
  within = omega (arith, l.room, simp length-append at (ap length l.left.all))

  pub written-length : length now ≡ length before
  written-length = ap length l.written.bytes ∙ length-laid before at l.done within

  -- The next record passes too.
  pub written-clear : k ≤ s.count → record_rows h s k ≡ 0
  written-clear m = rows-clear l.left.rows m l.clear

  module _ {r : Record} (more : k ≤ s.count) (e : r ≡ record_of h s k) where
    -- There is room for the next line.
    pub written-room : next + length (record_line h s.form r) ≤ length now
    written-room = rw e (omega (arith, l.room, written-length, l.written.next, simp length-append at (ap length (left-all l.left more))))

    pub written_turn : {now2 : List ℕ} {next2 : ℕ} → Written now next (record_line h s.form r) now2 next2 → LinesWritten h s before at (k + 1) now2 next2
    written_turn w = record {
      clear = l.clear;
      room = l.room;
      done = _;
      left = left_turn l.left more (written-clear more);
      written = written_then l.written (rw e at w) (omega (arith, l.written.next, within));
    }

  pub written-end : s.count < k → Written before at (record_lines h s 1 s.count) now next
  written-end m = rw (left_end l.left m) l.written

-- ---- The text in a lent buffer

-- There is room for it.
pub fitted_whole : (out text : List ℕ) {after : List ℕ} {n end : ℕ} → n ≡ length text → n ≤ length out → Written out 0 text after end
    → listed n after ≡ fitted out text
fitted_whole out text e h w = rw (e, w.bytes, le-leb (length text) (length out) (omega arith))

-- A refusal,
pub refused_long : (n : ℕ) {m : ℕ} → m ≡ length (decimal n) → 9 + m ≡ length (refused_word ++ decimal n ++ newline)
refused_long n e = simp length-append (omega arith)

pub list_refused : (most : ℕ) (h out : List ℕ) {n : ℕ} → n ≡ list_rows most h → (n ≡ 0 → ⊥) → fitted out (refused_word ++ decimal n ++ newline) ≡ list most h out
unfolding list list_text
list_refused most h out {n} e f =
    let t : refused_word ++ decimal n ++ newline ≡ list_text most h = rw (← e) (left_alone n _ _ f) in
    ap (fitted out) t

-- or the lines.
pub lines_long : (h : List ℕ) (s : Setting) {m k : ℕ} → m ≡ length (setting_line s) → k ≡ length (record_lines h s 1 s.count)
    → m + k ≡ length (setting_line s ++ record_lines h s 1 s.count)
lines_long h s e f = rw (length-append, e, f)

pub list_lines : (most : ℕ) (h out : List ℕ) {s : Setting} {n : ℕ} → n ≡ list_rows most h → n ≡ 0 → s ≡ setting_of h
    → fitted out (setting_line s ++ record_lines h s 1 s.count) ≡ list most h out
unfolding list list_text
list_lines most h out e z i = rw (sym e ∙ z, i)
