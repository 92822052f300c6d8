-- The logarithm says between which powers of ten the number lies.
use Rattle.listing.proofs.Digits.{decimal-many}
use Rattle.listing.proofs.decimal_length.Goals as goal

pub returns : goal.returns
returns c =
    let log = c.ilog10.ensures in
    decimal-many _ _ log.bound (rw c.max.ensures at log.power_le) (rw c.max.ensures at log.next_power_gt)
