use Rattle.csv.specs.Records.{fields_of}
use Rattle.gta_rows.proofs.Left.{found_one, found_none}
use Rattle.gta_rows.proofs.reading.next_record.Goals as goal

pub returns-in-Ok-clause-reading : goal.returns-in-Ok-clause-reading
returns-in-Ok-clause-reading c = λ found.
    (found_one c.args.reader.now c.read_byte_record.new.self (fields_of c.read_byte_record.new.row) c.requires
    (c.in-Ok.ensures.ready c.requires.trim) c.in-Ok.ensures.flexible
    (rw found at (c.in-Ok.ensures.reads c.requires.trim c.requires.ready))).reading

pub returns-in-Ok-clause-next : goal.returns-in-Ok-clause-next
returns-in-Ok-clause-next c = λ found.
    (found_one c.args.reader.now c.read_byte_record.new.self (fields_of c.read_byte_record.new.row) c.requires
    (c.in-Ok.ensures.ready c.requires.trim) c.in-Ok.ensures.flexible
    (rw found at (c.in-Ok.ensures.reads c.requires.trim c.requires.ready))).next

pub returns-in-Ok-clause-narrow : goal.returns-in-Ok-clause-narrow
returns-in-Ok-clause-narrow c = λ found.
    (found_one c.args.reader.now c.read_byte_record.new.self (fields_of c.read_byte_record.new.row) c.requires
    (c.in-Ok.ensures.ready c.requires.trim) c.in-Ok.ensures.flexible
    (rw found at (c.in-Ok.ensures.reads c.requires.trim c.requires.ready))).narrow

pub returns-in-Ok-clause-end : goal.returns-in-Ok-clause-end
returns-in-Ok-clause-end c = λ found.
    found_none c.args.reader.now c.read_byte_record.new.self (fields_of c.read_byte_record.new.row) c.requires
    (rw found at (c.in-Ok.ensures.reads c.requires.trim c.requires.ready))
