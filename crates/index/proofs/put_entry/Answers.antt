-- Each store lies behind the one before it, and the last is the checksum of what the first two stored.
use Rattle.index.proofs.Stores.{entry-laid}
use Rattle.index.proofs.put_entry.Goals as goal

pub returns : goal.returns
returns c =
    let sum-put = c in
    let page-sum-put = sum-put in
    let summed = page-sum-put in
    let address-put = summed in
    let logical-put = address-put in
    let start = logical-put in
    entry-laid _ _ _ _ _ _ _ _ _ _ start.requires logical-put.put.ensures address-put.put_address.ensures
    summed.fletcher32_sixteen-sum.ensures.0
    page-sum-put.put_page_sum.ensures
    sum-put.entry_sum_at.ensures
    sum-put.put-2.ensures
