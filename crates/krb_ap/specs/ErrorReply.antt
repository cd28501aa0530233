-- The error that a service sends for a request that it refuses (RFC 4120, sections 3.2.3 and
-- 5.9.1).
use Rattle.std.specs.Prelude.{◌≡◌, ◌<◌, ℕ, ℤ, List, Some, None}
use Rattle.krb_name.specs.declared.principal.Principal.{Principal}
use Rattle.krb_der.specs.Kind.{ValueOf}
use Rattle.krb_msg.specs.Module.{krb_error}
use Rattle.krb_msg.specs.Fields.{krb_error_value}
use Rattle.krb_time.specs.Moments.{micros_of}
use Rattle.krb_ap.specs.Causes.{code_of}
use Rattle.krb_ap.specs.Written.{IsWritten}
use Rattle.krb_ap.specs.declared.refusal.Refusal.{Refusal}

-- the service's time, a code and the service's name, and no more
abbrev pub error_for : ℤ → ℕ → ℤ → Principal → ValueOf krb_error
error_for stime susec code service = krb_error_value (record {
  ctime = None;
  cusec = None;
  stime = stime;
  susec = susec;
  error_code = code;
  crealm = None;
  cname = None;
  service = service;
  e_text = None;
  e_data = None;
})

-- the bytes are that error as it is written, with the moment as its whole second and the
-- microseconds after it
pub record IsError (code now : ℤ) (service : Principal) (bytes : List ℕ) : Type 0 where
  pub stime : ℤ
  pub susec : ℕ
  pub now_is : now ≡ micros_of stime susec
  pub micros : susec < 1_000_000
  pub bytes_are : IsWritten krb_error (error_for stime susec code service) bytes

-- the error of a refusal that has a code
pub record IsErrorReply (refusal : Refusal) (now : ℤ) (service : Principal) (bytes : List ℕ) : Type 0 where
  pub code : ℤ
  pub code_is : code_of refusal ≡ Some code
  pub error : IsError code now service bytes

-- there is a code, but no bytes are the error: it would be longer than messages may be
pub record IsErrorTooLong (refusal : Refusal) (now : ℤ) (service : Principal) : Type 0 where
  pub code : ℤ
  pub code_is : code_of refusal ≡ Some code
  pub unwritten : (bytes : List ℕ) → ¬ IsError code now service bytes
