-- A row of the program's table.
use Rattle.format_table.specs.Parts.{slots_of}
use Rattle.format_table.specs.Tables.{KindRow}
use Rattle.format_table.specs.declared.table.TableRow.{TableRow}

abbrev pub row_of : TableRow → KindRow
row_of row = record { code = row.code; name = row.name.now; slots = slots_of row.parts.now }
