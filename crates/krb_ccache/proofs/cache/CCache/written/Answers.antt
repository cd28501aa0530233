use Rattle.std.proofs.Common.{ap, ◌∙◌, ◌++◌, ℕ, List, []}
use Rattle.std.specs.List.{flat_map}
use Rattle.krb_ccache.specs.Spelling.{header_bytes, name_bytes, credential_bytes}
use Rattle.krb_ccache.specs.Value.{Cache}
use Rattle.krb_ccache.specs.Types.{Version4}
use Rattle.krb_ccache.specs.Format.{version_of}
use Rattle.krb_ccache.proofs.WritingLaws.{wrote, then_wrote, wrote_same}
use Rattle.krb_ccache.proofs.cache.CCache.written.Goals as goal

pub returns-clause-written : goal.returns-clause-written
returns-clause-written c =
    let cache = c.args.self.now in
    let first = wrote [] (version_of Version4) c.write_u16.new.out.items (c.in_ok-write_u16.ensures ∙ ap (λ (t : List ℕ). t ++ version_of Version4) c.in_ok-bytes.ensures.items) in
    let header_is = c.as_slice.ensures.value ∙ ap (λ (k : Cache). k.header) c.self.view_is in
    let header = wrote_same (header_bytes cache.header) (ap header_bytes header_is) (wrote c.write_u16.new.out.items (header_bytes c.as_slice.result.now) c.write_header.new.out.items c.in_ok-write_header.ensures) in
    let name_is = ap (λ (k : Cache). k.default_principal) c.self.view_is in
    let name = wrote_same (name_bytes cache.default_principal) (ap name_bytes name_is) (wrote c.write_header.new.out.items (name_bytes c.self.inside.default_principal) c.write.new.out.items c.in_ok-write.ensures) in
    let credentials_is = c.as_slice-2.ensures ∙ ap (λ (k : Cache). k.credentials) c.self.view_is in
    let credentials =
    wrote_same (flat_map credential_bytes cache.credentials) (ap (flat_map credential_bytes) credentials_is) (wrote c.write.new.out.items (flat_map credential_bytes c.as_slice-2.result.now) c.write_each.new.out.items c.in_ok-write_each.ensures) in
    (then_wrote (then_wrote first header) (then_wrote name credentials)).is
