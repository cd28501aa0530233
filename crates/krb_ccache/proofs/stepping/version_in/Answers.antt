use Rattle.std.proofs.Common.{ap, sym, subst, ◌∙◌}
use Rattle.krb_file.specs.Cursor.{Place}
use Rattle.krb_file.specs.Field.{IsBytes}
use Rattle.krb_ccache.proofs.PartLaws.{IsField-layout}
use Rattle.krb_ccache.proofs.Repeats.{lies_where, missing_where}
use Rattle.krb_ccache.proofs.StepLaws.{lies_stands}
use Rattle.krb_ccache.proofs.stepping.version_in.Goals as goal

pub returns : goal.returns
returns c =
    let fits = subst IsBytes (sym (ap (λ (p : Place). p.rest) c.new-cursor.ensures)) (λ i. (c.type_inv.bytes i).fits) in
    lies_stands c.args.bytes.now c.new-cursor.result c.read_layout.new.cursor c.in-Ok.layout c.new-cursor.ensures (lies_where _ _ _ IsField-layout c.new-cursor.result c.in-Ok.layout c.read_layout.new.cursor fits c.in-Ok.ensures.read)

pub unreachable-requires : goal.unreachable-requires
unreachable-requires c =
    missing_where _ _ _ IsField-layout c.new-cursor.result c.in_default.ensures.short c.requires.0 c.requires.1.others c.requires.1.fits (ap (λ (p : Place). p.rest) c.new-cursor.ensures ∙ c.requires.1.bytes_are)
