-- A book in the program, as contracts see it.
use Rattle.layer_book.specs.Books.{Book}
use Rattle.layer_book.specs.declared.book.LayerBook.TheInside.{Inside}

abbrev pub view_of : Inside → Book
view_of b = record { cluster = b.cluster; layers = b.layers.items }
