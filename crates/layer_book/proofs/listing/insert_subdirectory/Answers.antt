use Rattle.std.proofs.Common.{sym, rules}
use Rattle.layer_book.specs.Subdirectories.{subdirectory, subdirectory_cmp}
use Rattle.layer_book.proofs.Places.{tied_there, untied_placed}
use Rattle.layer_book.proofs.listing.insert_subdirectory.Goals as goal

pub returns-then-is_at : goal.returns-then-is_at
returns-then-is_at c = sym (tied_there subdirectory_cmp (subdirectory c.args.layer.now) c.args.list.now.items c.place_of_subdirectory-place.result (cc) (cc))

pub returns : goal.returns
returns c =
    let at = untied_placed subdirectory_cmp (subdirectory c.args.layer.now) c.args.list.now.items c.place_of_subdirectory-place.result (cc) (cc) in
    search (rules, at)
