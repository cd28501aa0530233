-- The error codes that a service uses (RFC 4120, section 7.5.9).
use Rattle.std.specs.Prelude.{ℤ, pos}

abbrev pub kdc_err_etype_nosupp : ℤ
kdc_err_etype_nosupp = pos 14

abbrev pub krb_ap_err_bad_integrity : ℤ
krb_ap_err_bad_integrity = pos 31

abbrev pub krb_ap_err_tkt_expired : ℤ
krb_ap_err_tkt_expired = pos 32

abbrev pub krb_ap_err_tkt_nyv : ℤ
krb_ap_err_tkt_nyv = pos 33

abbrev pub krb_ap_err_repeat : ℤ
krb_ap_err_repeat = pos 34

abbrev pub krb_ap_err_not_us : ℤ
krb_ap_err_not_us = pos 35

abbrev pub krb_ap_err_badmatch : ℤ
krb_ap_err_badmatch = pos 36

abbrev pub krb_ap_err_skew : ℤ
krb_ap_err_skew = pos 37

abbrev pub krb_ap_err_msg_type : ℤ
krb_ap_err_msg_type = pos 40

abbrev pub krb_ap_err_badkeyver : ℤ
krb_ap_err_badkeyver = pos 44

abbrev pub krb_ap_err_nokey : ℤ
krb_ap_err_nokey = pos 45

abbrev pub krb_err_generic : ℤ
krb_err_generic = pos 60
