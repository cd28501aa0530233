use Rattle.krb_file.proofs.CursorLaws.{IsField-data16}
use Rattle.krb_ccache.proofs.header.read_header.Goals as goal

pub read_fields-requires : goal.read_fields-requires
read_fields-requires c = (IsField-data16.takes c.args.cursor.now c.in_ok-body.body.now c.read_data16.new.self c.requires c.in_ok-body.ensures.read).1
