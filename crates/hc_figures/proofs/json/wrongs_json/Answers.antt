use Rattle.std.proofs.Common.{map}
use Rattle.serde_json.specs.Data.{array, no_members}
use Rattle.serde_json.specs.View.{items_of}
use Rattle.hc_figures.specs.Json.{listed_data}
use Rattle.hc_figures.proofs.json.wrongs_json.Goals as goal

pub returns : goal.returns
returns c =
    let listed = rw c.as_slice.ensures.value at c.listed_json.ensures in
    let first = c.number.ensures.has no_members c.new-wrongs.ensures.has in
    let second = c.put.ensures.has (array (items_of (map listed_data c.args.replies.now.listed.items))) listed _ first in
    let third = rw c.unlisted.ensures at c.number-2.ensures.has _ second in
    c.into_value.ensures.has _ third
