use Rattle.std.proofs.Common.{◌≡◌, ◌≤◌, ◌+◌, ℕ, length, arith, Result, Ok}
use Rattle.krb_context.specs.declared.fault.SendFault.{SendFault}
use Rattle.krb_enc.specs.Key.{profile_of}
use Rattle.krb_context.specs.Mic.{mic_token}
use Rattle.krb_talk.proofs.Lengths.{tag_fits, is_sent, not_refused}
use Rattle.krb_context.specs.declared.fault.SendFault.TheVariants.{ShortSlice}
use Rattle.krb_talk.proofs.mic.own_mic.Goals as goal

pub unreachable-requires : goal.unreachable-requires
unreachable-requires c =
    let sender = c.args.context.now.sender in
    let number = c.requires.next.number in
    let token = mic_token sender number c.args.list.now in
    let tag = tag_fits sender.key.etype in
    let size : length token ≡ 16 + (profile_of sender.key).tag_len =
    c.token_lengths.ensures.mic sender number c.args.list.now token
    (c.what_is_written_is_read.ensures.mic sender number c.args.list.now (c.mic_to.ensures.fits number c.requires.next.next)) in
    let room : length c.args.room.now ≡ 40 = c.requires.room in
    let fits : length token ≤ length c.args.room.now = omega (arith, tag, size, room) in
    not_refused ShortSlice token c.args.room.now c.mic_to.new.token c.mic_to.result c.in_default.field-0 fits
    (c.mic_to.ensures.written number c.requires.next.next) c.in_default.is

same_size : (one other : ℕ) (result : Result ℕ SendFault) → result ≡ Ok one → result ≡ Ok other → one ≡ other
same_size one other result a b = cc

pub returns-clause-fits : goal.returns-clause-fits
returns-clause-fits c =
    let sender = c.args.context.now.sender in
    let number = c.requires.next.number in
    let token = mic_token sender number c.args.list.now in
    let tag = tag_fits sender.key.etype in
    let size : length token ≡ 16 + (profile_of sender.key).tag_len =
    c.token_lengths.ensures.mic sender number c.args.list.now token
    (c.what_is_written_is_read.ensures.mic sender number c.args.list.now (c.mic_to.ensures.fits number c.requires.next.next)) in
    let room : length c.args.room.now ≡ 40 = c.requires.room in
    let fits : length token ≤ length c.args.room.now = omega (arith, tag, size, room) in
    let same = same_size c.in-Ok.size (length token) c.mic_to.result c.in-Ok.is
    (is_sent ShortSlice token c.args.room.now c.mic_to.new.token c.mic_to.result fits (c.mic_to.ensures.written number c.requires.next.next)) in
    let stays : length c.mic_to.new.token ≡ length c.args.room.now = c.mic_to.auto.token in
    omega (arith, same, fits, stays)
