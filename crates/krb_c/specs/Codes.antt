-- Made from interface.toml by `make generate`. Don't edit this file.
-- The codes that calls answer. A number never changes: a cause that comes between two others gets
-- one of the numbers between theirs.
use Rattle.std.specs.Prelude.{ℕ, ◌+◌, ◌/◌}
use Rattle.krb_ap.specs.declared.refusal.Refusal.{Refusal}
use Rattle.krb_ap.specs.declared.refusal.Refusal.TheVariants.{OutOfMemory}
use Rattle.krb_ap.specs.Causes.{place}
use Rattle.krb_login.specs.Terms.{place as breach_place}
use Rattle.krb_login.specs.declared.breach.Breach.{Breach}

abbrev pub ok : ℕ
ok = 0

abbrev pub go_on : ℕ
go_on = 1

abbrev pub ask_store : ℕ
ask_store = 2

abbrev pub store_failed : ℕ
store_failed = 310

abbrev pub list_mic_missing : ℕ
list_mic_missing = 320

abbrev pub list_mic_wrong : ℕ
list_mic_wrong = 321

abbrev pub list_mic_other_key : ℕ
list_mic_other_key = 322

abbrev pub list_key_type : ℕ
list_key_type = 323

abbrev pub out_of_memory : ℕ
out_of_memory = 400

abbrev pub short_buffer : ℕ
short_buffer = 401

abbrev pub empty_handle : ℕ
empty_handle = 402

abbrev pub nothing_there : ℕ
nothing_there = 403

abbrev pub too_long : ℕ
too_long = 404

abbrev pub full : ℕ
full = 405

abbrev pub bad_skew : ℕ
bad_skew = 410

abbrev pub bad_moment : ℕ
bad_moment = 411

abbrev pub bad_confounder : ℕ
bad_confounder = 412

abbrev pub key_type : ℕ
key_type = 413

abbrev pub key_length : ℕ
key_length = 414

abbrev pub no_code : ℕ
no_code = 415

abbrev pub bad_options : ℕ
bad_options = 416

abbrev pub no_name : ℕ
no_name = 417

abbrev pub no_start : ℕ
no_start = 418

abbrev pub early_start : ℕ
early_start = 419

abbrev pub bad_bindings : ℕ
bad_bindings = 420

abbrev pub bad_random : ℕ
bad_random = 421

abbrev pub bad_said : ℕ
bad_said = 422

abbrev pub not_waiting : ℕ
not_waiting = 423

abbrev pub shared : ℕ
shared = 424

abbrev pub file_version : ℕ
file_version = 500

abbrev pub file_header : ℕ
file_header = 501

abbrev pub file_truncated : ℕ
file_truncated = 502

abbrev pub file_bad_item : ℕ
file_bad_item = 503

abbrev pub no_such_entry : ℕ
no_such_entry = 504

abbrev pub not_read : ℕ
not_read = 505

abbrev pub no_credential : ℕ
no_credential = 600

abbrev pub no_usable_key : ℕ
no_usable_key = 601

abbrev pub credential_expired : ℕ
credential_expired = 602

abbrev pub bad_ticket : ℕ
bad_ticket = 603

abbrev pub reply_type : ℕ
reply_type = 700

abbrev pub reply_malformed : ℕ
reply_malformed = 701

abbrev pub reply_integrity : ℕ
reply_integrity = 702

abbrev pub reply_mismatch : ℕ
reply_mismatch = 703

abbrev pub error_malformed : ℕ
error_malformed = 704

abbrev pub text_short : ℕ
text_short = 800

abbrev pub text_integrity : ℕ
text_integrity = 801

abbrev pub bad_text : ℕ
bad_text = 810

abbrev pub no_realm : ℕ
no_realm = 811

abbrev pub not_utf8 : ℕ
not_utf8 = 812

abbrev pub not_a_token : ℕ
not_a_token = 900

abbrev pub token_malformed : ℕ
token_malformed = 901

abbrev pub token_continues : ℕ
token_continues = 902

abbrev pub token_empty : ℕ
token_empty = 903

abbrev pub token_id : ℕ
token_id = 904

abbrev pub token_unframed : ℕ
token_unframed = 905

abbrev pub other_mechanism : ℕ
other_mechanism = 910

abbrev pub ntlm : ℕ
ntlm = 911

abbrev pub iakerb : ℕ
iakerb = 912

abbrev pub nested_negotiation : ℕ
nested_negotiation = 913

abbrev pub bad_mechanism : ℕ
bad_mechanism = 920

abbrev pub bad_verdict : ℕ
bad_verdict = 921

abbrev pub bad_negotiation : ℕ
bad_negotiation = 922

abbrev pub negotiation_over : ℕ
negotiation_over = 923

abbrev pub context_truncated : ℕ
context_truncated = 930

abbrev pub context_bindings : ℕ
context_bindings = 931

abbrev pub context_delegation : ℕ
context_delegation = 932

abbrev pub message_defective : ℕ
message_defective = 940

abbrev pub message_direction : ℕ
message_direction = 941

abbrev pub message_other_key : ℕ
message_other_key = 942

abbrev pub message_integrity : ℕ
message_integrity = 943

abbrev pub message_gap : ℕ
message_gap = 944

abbrev pub message_repeat : ℕ
message_repeat = 946

abbrev pub message_old : ℕ
message_old = 947

abbrev pub numbers_used_up : ℕ
numbers_used_up = 948

abbrev pub bad_role : ℕ
bad_role = 949

-- why a request is refused: a tenth of the place in krb_ap's table, and 90. Places are multiples of
-- 10, so no two causes have one code.
abbrev pub cause_code : Refusal → ℕ
cause_code OutOfMemory = out_of_memory
cause_code refusal = 90 + place refusal / 10

-- why a client isn't let in though its request is accepted; these places come after those of causes
abbrev pub breach_code : Breach → ℕ
breach_code breach = 90 + breach_place breach / 10

-- the library's version: the major number, the minor number and the patch number, with two digits
-- for each of the last two
abbrev pub version : ℕ
version = 200
