-- The index of a record that was checked, at the address where it is looked for.
use mathlib.Core.Path.{◌≡◌}
use mathlib.Core.List.{List}
use Prim.Native.Nat.{ℕ, ◌+◌, ◌%◌, ◌≤◌, ◌<◌}
use lib.ListN.{get_or}
use Rattle.rules.specs.Layout.{front_width, entries_in, index_of}
use Rattle.rules.specs.View.{no_entry, logicals}
use Rattle.rules.specs.declared.Setting.{Setting}
use Rattle.rules.specs.declared.Record.{Record}
use Rattle.rules.specs.declared.Entry.{Entry}
use Rattle.rules.proofs.Entries.{EntryRight, entry-right, entries_rise, length_entries, logical-at}
use Rattle.rules.specs.Orders.{Rising}
use Rattle.records.specs.Sound.{SoundRecord, index_in}
use Rattle.records.proofs.Fields.{index-there}

module _ (h : List ℕ) (s : Setting) (r : Record) (q : SoundRecord h s r) where
  abbrev index : List Entry
  index = entries_in h (index_in s r)

  pub index-rising : Rising (logicals index)
  index-rising = rw (index-there h s r) (entries_rise s r 0 (index_of h s.form r) q.right)

  stands : (k : ℕ) → k < r.entries → EntryRight s r (get_or index k no_entry)
  stands k l = rw (index-there h s r) (entry-right s r 0 (index_of h s.form r) q.right k (rw (length_entries s.form h (r.address + front_width s.form) r.entries) l))

  -- Its addresses are those of pages.
  pub page-multiple : (k : ℕ) → k < r.entries → get_or (logicals index) k 0 % s.form.page ≡ 0
  page-multiple k l = rw (logical-at index k) (stands k l).multiple

  -- Its pages lie ahead of the record.
  pub page-ahead : (k : ℕ) → k < r.entries → (get_or index k no_entry).physical + s.form.page ≤ r.address
  page-ahead k l = (stands k l).ahead
