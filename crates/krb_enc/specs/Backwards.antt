-- What a sealed text opens to, by decryption (RFC 8009, section 5). A law says that this is the
-- same relation as that of Opens.
use Rattle.std.specs.Prelude.{◌≡◌, ◌≤◌, ◌+◌, ℕ, List, ◌++◌, length}
use Rattle.krb_cts.specs.Undo.{undo}
use Rattle.krb_enc.specs.Sealed.{Profile, encryption_key}
use Rattle.krb_enc.specs.Opens.{body_of, HasTag}

-- the text is long enough and has its tag, and what comes before the tag decrypts to 16 bytes and
-- the plain text
pub record OpensBack (p : Profile) (key : List ℕ) (usage : ℕ) (text plain : List ℕ) : Type 0 where
  pub long : 16 + p.tag_len ≤ length text
  pub has_tag : HasTag p key usage text
  pub confounder : List ℕ
  pub size : length confounder ≡ 16
  pub undone : undo (encryption_key p key usage) (body_of p text) ≡ confounder ++ plain

-- by decryption it opens to this plain text and to no other
pub record OpensBackOnlyTo (p : Profile) (key : List ℕ) (usage : ℕ) (text plain : List ℕ) : Type 0 where
  pub opens : OpensBack p key usage text plain
  pub only : (other : List ℕ) → OpensBack p key usage text other → other ≡ plain
