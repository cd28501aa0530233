-- Words of this crate and of the crates below, and types of the sources, that contracts cite, passed on from one
-- place. Declares nothing.
pub use Rattle.std.specs.Option.{MatchOption, option_map}
pub use Rattle.krb_ccache.specs.Value.{Cache}
pub use Rattle.krb_ccache.specs.declared.credential.Credential.{Credential}
pub use Rattle.krb_der.specs.Kind.{ValueOf}
pub use Rattle.krb_der.specs.Spells.{IsMessage}
pub use Rattle.krb_enc.specs.Key.{IsKnown, IsUsable, profile_of}
pub use Rattle.krb_enc.specs.Opens.{Opens}
pub use Rattle.krb_keytab.specs.Pick.{IsChoice, chosen}
pub use Rattle.krb_keytab.specs.Size.{IsNoLarger, name_size}
pub use Rattle.krb_msg.specs.Borrowed.{ap_rep_of, ap_req_of, authenticator_of, enc_ap_rep_part_of, enc_ticket_part_of, encrypted_of, key_of, ticket_of, typed_of}
pub use Rattle.krb_msg.specs.Fields.{encrypted_fields, encrypted_value, part_client, reply_enc_part, ticket_service, type_of}
pub use Rattle.krb_msg.specs.Module.{ap_rep, authenticator, enc_ap_rep_part, enc_ticket_part, ticket as ticket_kind}
pub use Rattle.krb_msg.specs.Owned.{owned_encrypted_of, owned_key_of, owned_list_of, owned_typed_of}
pub use Rattle.krb_name.specs.declared.principal.Principal.{Principal}
pub use Rattle.krb_replay.specs.Memory.{AddsStamp, IsRecent, SameStamps, later_of}
pub use Rattle.krb_replay.specs.Stamp.{Stamp}
pub use Rattle.krb_ap.specs.Opened.{Asks, AsksFor, AsksWithin, IsOrdinary, SameClient, authenticator_usage, entry_key, sent_at, service_of, stamp_of, ticket_usage}
pub use Rattle.krb_ap.specs.Setup.{Arrival, Setup, arrival, as_decided, with_entries}
pub use Rattle.krb_ap.specs.Taken.{Accept, IsTakenFrom, Taken, taken_stamp}
pub use Rattle.krb_ap.specs.declared.accepted.Accepted.{Accepted}
pub use Rattle.krb_ap.specs.declared.finish.FinishFault.{FinishFault}
pub use Rattle.krb_ap.specs.declared.refusal.Refusal.{Refusal}
pub use Rattle.krb_ap.specs.declared.request.RequestOptions.{RequestOptions}
pub use Rattle.krb_ap.specs.declared.request.RequestFault.{RequestFault}
