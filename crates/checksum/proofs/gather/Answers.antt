-- Lanes below 2^32, eight times and seven times over, stay far within 64 bits.
use Rattle.checksum.proofs.Eight.{sum_room, times_room, weights_room, weights_sum, less_room, gathered}
use Rattle.checksum.proofs.gather.Goals as goal

pub overflow_add-all : goal.overflow_add-all
overflow_add-all c = sum_room c.args.seconds c.fits-seconds

pub overflow_mul-less : goal.overflow_mul-less
overflow_mul-less c = weights_room c.args.firsts c.fits-firsts.1

pub overflow_add-less : goal.overflow_add-less
overflow_add-less c = weights_sum c.args.firsts c.args.seconds c.fits-seconds c.requires

pub overflow_add-result : goal.overflow_add-result
overflow_add-result c = sum_room c.args.firsts c.fits-firsts

pub overflow_mul-result : goal.overflow_mul-result
overflow_mul-result c = times_room c.args.seconds c.fits-seconds

pub overflow_sub-result : goal.overflow_sub-result
overflow_sub-result c = less_room c.args.firsts c.args.seconds c.fits-seconds c.requires

pub returns : goal.returns
returns c = gathered c.args.firsts c.args.seconds c.fits-seconds c.requires
