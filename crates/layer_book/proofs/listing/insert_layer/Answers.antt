use Rattle.std.proofs.Common.{rules}
use Rattle.layer_book.specs.Books.{name_in}
use Rattle.layer_book.proofs.Places.{layer_at}
use Rattle.layer_book.proofs.listing.insert_layer.Goals as goal

pub returns : goal.returns
returns c =
    let at = layer_at name_in c.args.entry.now c.args.list.now.items c.place_of_layer-place.result (cc) in
    search (rules, at)
