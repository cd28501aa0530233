use Rattle.std.proofs.Common.{◌≡◌, ◌∙◌, ◌++◌, ℕ, List, length, ap}
use Rattle.krb_replay.specs.Bytes.{name_bytes}
use Rattle.krb_replay.specs.Stamp.{name_of}
use Rattle.krb_replay.proofs.NamesLaws.{hash_same, names_are, names_back}
use Rattle.krb_replay.proofs.names.Names.new.Goals as goal

first : (c : goal.In_ok-write_name-2) → c.write_name.new.out.items ≡ name_bytes (name_of c.args.server.now)
first c = c.in_ok-write_name.ensures.written ∙ ap (λ (list : List ℕ). list ++ name_bytes (name_of c.args.server.now)) c.in_ok-bytes.ensures.items

all : (c : goal.In_ok-write_name-2) → c.write_name-2.new.out.items ≡ name_bytes (name_of c.args.server.now) ++ name_bytes (name_of c.args.client.now)
all c = c.in_ok-write_name-2.ensures.written ∙ ap (λ (list : List ℕ). list ++ name_bytes (name_of c.args.client.now)) (first c)

long : (c : goal.In_ok-write_name-2) → c.in_ok-server_len.server_len ≡ length (name_bytes (name_of c.args.server.now))
long c = c.in_ok-server_len.ensures ∙ (c.len.ensures ∙ (c.write_name.new.out.ok.0 ∙ ap (λ (list : List ℕ). length list) (first c)))

pub invariant_of-result : goal.invariant_of-result
invariant_of-result c =
    names_are c.write_name-2.new.out.items c.in_ok-server_len.server_len c.name_hash-client_hash.result (name_of c.args.server.now) (name_of c.args.client.now)
    (all c) (long c) (c.name_hash-client_hash.ensures ∙ hash_same c.args.client.now) c.in_ok-write_name.ensures.fits c.in_ok-write_name-2.ensures.fits

pub returns : goal.returns
returns c =
    let back = names_back c.write_name-2.new.out.items c.in_ok-server_len.server_len (name_of c.args.server.now) (name_of c.args.client.now)
    (all c) (long c) c.in_ok-write_name.ensures.fits c.in_ok-write_name-2.ensures.fits in
    λ i. (back.0 i, back.1 i)
