use Rattle.std.proofs.Common.{arith, sym}
use Rattle.row_codec.specs.Views.{seen}
use Rattle.row_codec.proofs.ValueLaws.{bytes_by_index, goes_on}
use Rattle.row_codec.proofs.values.take_cell.Goals as goal

pub returns-in-Some-take_marked_value-clause-goes_on : goal.returns-in-Some-take_marked_value-clause-goes_on
returns-in-Some-take_marked_value-clause-goes_on c =
    goes_on c.args.last c.in-Some.column (seen c.in-Some-take_marked_value.datum) c.args.b.now c.in-Some.rest.now c.in-Some-take_marked_value.rest.now
    (bytes_by_index c.args.b.now (λ i. omega (arith, c.type_inv.b i))) c.if-column-last.false (sym c.in-Some.ensures) (sym c.in-Some-take_marked_value.ensures)
