use Rattle.std.proofs.Common.{ap, length, rules, ◌∙◌}
use Rattle.std.specs.Int.{w32}
use Rattle.std.specs.Prelude.{FitsSigned}
use Rattle.std.proofs.lemmas.Int.{to_z-of_z}
use Rattle.std.specs.List.{flat_map}
use Rattle.std.proofs.lemmas.Result.{on_ok_weaker}
use Rattle.krb_file.specs.Cursor.{number_bytes, signed_bytes, data_bytes}
use Rattle.krb_ccache.proofs.WritingLaws.{wrote, then_wrote, wrote_same}
use Rattle.krb_ccache.proofs.part.PrincipalPart.write.Goals as goal

pub returns : goal.returns
returns c =
    let name = c.args.self.now in
    let fits : FitsSigned w32 name.name_type = search rules in
    let first =
    wrote_same (signed_bytes w32 name.name_type) (ap (number_bytes w32) c.cast_unsigned.ensures ∙ ap (signed_bytes w32) (to_z-of_z w32 name.name_type fits)) (wrote c.args.out.now.items (number_bytes w32 c.cast_unsigned.result) c.write_u32.new.out.items c.in_ok-write_u32.ensures) in
    let count = wrote c.write_u32.new.out.items (number_bytes w32 c.len.result) c.write_u32-2.new.out.items c.in_ok-write_u32-2.ensures in
    let counted = wrote_same (number_bytes w32 (length name.components)) (ap (number_bytes w32) c.len.ensures) count in
    let realm = wrote c.write_u32-2.new.out.items (data_bytes w32 name.realm) c.write.new.out.items c.in_ok-write.ensures in
    on_ok_weaker c.write_bytes.result (λ e.
    let components = wrote_same (flat_map (data_bytes w32) name.components) c.spelled.ensures.spelled (wrote c.write.new.out.items c.spelled.result.now c.write_bytes.new.out.items e) in
    (then_wrote first (then_wrote counted (then_wrote realm components))).is) c.write_bytes.ensures
