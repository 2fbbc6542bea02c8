-- The worked rows by computing.
use Rattle.std.proofs.Common.{refl}
use Rattle.console_wire.specs.Items.{items_from, piece_from, console_items}
use Rattle.console_wire.specs.Rows.{RowOfItems}

pub row_of_items : RowOfItems
unfolding items_from piece_from console_items
row_of_items = record { line = refl; rest = refl; first = refl; piece = refl; second = refl; return_alone = refl; quit = refl; most = refl; ends = refl; strange = refl; empty = refl }
