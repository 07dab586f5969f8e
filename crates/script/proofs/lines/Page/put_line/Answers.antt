use Rattle.script.proofs.lines.Page.put_line.Goals as goal
use Rattle.script.proofs.Text.{line_put}

pub returns : goal.returns
returns c = line_put c.args.n c.args.kind c.args.a c.requires.room c.descriptor_given.ensures c.length_given.ensures c.put_number.ensures c.put_column.ensures c.put_column-2.ensures c.put_column-3.ensures c.put.ensures
