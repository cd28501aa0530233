-- A name is found again in its symbols.
use Rattle.std.proofs.Common.{◌≡◌, ◌≢◌, ℕ, Bool, true, false, List, [], ◌∷◌, ◌++◌, refl, sym, ap, ◌∙◌, append_assoc, append-nil}
use Rattle.krb_name.proofs.Symbols.{Symbol, Byte, Slash, Sign}
use Rattle.krb_name.proofs.NameSymbols.{of_bytes, of_components, of_name}

pub append_first : List ℕ → List (List ℕ) → List (List ℕ)
append_first bytes [] = bytes ∷ []
append_first bytes (first ∷ others) = (bytes ++ first) ∷ others

pub components_in : List Symbol → List (List ℕ)
components_in [] = [] ∷ []
components_in (Byte b ∷ symbols) = append_first (b ∷ []) (components_in symbols)
components_in (Slash ∷ symbols) = [] ∷ components_in symbols
components_in (Sign ∷ symbols) = [] ∷ []

pub bytes_in : List Symbol → List ℕ
bytes_in [] = []
bytes_in (Byte b ∷ symbols) = b ∷ bytes_in symbols
bytes_in (Slash ∷ symbols) = bytes_in symbols
bytes_in (Sign ∷ symbols) = bytes_in symbols

pub realm_in : List Symbol → List ℕ
realm_in [] = []
realm_in (Byte b ∷ symbols) = realm_in symbols
realm_in (Slash ∷ symbols) = realm_in symbols
realm_in (Sign ∷ symbols) = bytes_in symbols

pub has_sign : List Symbol → Bool
has_sign [] = false
has_sign (Byte b ∷ symbols) = has_sign symbols
has_sign (Slash ∷ symbols) = has_sign symbols
has_sign (Sign ∷ symbols) = true

pub append_first-append : (a b : List ℕ) (xs : List (List ℕ)) → append_first a (append_first b xs) ≡ append_first (a ++ b) xs
unfolding append_first
append_first-append a b [] = refl
append_first-append a b (x ∷ xs) = ap (λ (t : List ℕ). t ∷ xs) (sym (append_assoc a b x))

pub append_first-nil : (x : List ℕ) (xs : List (List ℕ)) → append_first [] (x ∷ xs) ≡ x ∷ xs
unfolding append_first
append_first-nil x xs = refl

pub components_behind : (bytes first : List ℕ) (others : List (List ℕ)) (symbols : List Symbol) → components_in symbols ≡ first ∷ others → components_in (of_bytes bytes ++ symbols) ≡ (bytes ++ first) ∷ others
unfolding components_in append_first
components_behind [] first others symbols e = e
components_behind (byte ∷ bytes) first others symbols e = ap (append_first (byte ∷ [])) (components_behind bytes first others symbols e)

pub components_back : (components : List (List ℕ)) (realm : List ℕ) → components ≢ [] → components_in (of_name components realm) ≡ components
unfolding components_in
components_back [] realm some = absurd (some refl)
components_back (one ∷ []) realm some = components_behind one [] [] (Sign ∷ of_bytes realm) refl ∙ ap (λ (t : List ℕ). t ∷ []) (append-nil one)
components_back (one ∷ two ∷ others) realm some =
    ap components_in (append_assoc (of_bytes one) (Slash ∷ of_components (two ∷ others)) (Sign ∷ of_bytes realm)) ∙ components_behind one [] (two ∷ others) (Slash ∷ of_name (two ∷ others) realm) (ap (λ (l : List (List ℕ)). [] ∷ l) (components_back (two ∷ others) realm (λ e. cons_is_nil e)))
    ∙ ap (λ (t : List ℕ). t ∷ two ∷ others) (append-nil one)
  where
    cons_is_nil : two ∷ others ≡ [] → ⊥
    cons_is_nil e = cc

pub bytes_back : (bytes : List ℕ) → bytes_in (of_bytes bytes) ≡ bytes
unfolding bytes_in
bytes_back [] = refl
bytes_back (byte ∷ bytes) = ap (λ (t : List ℕ). byte ∷ t) (bytes_back bytes)

pub realm_behind : (bytes : List ℕ) (symbols : List Symbol) → realm_in (of_bytes bytes ++ symbols) ≡ realm_in symbols
unfolding realm_in
realm_behind [] symbols = refl
realm_behind (byte ∷ bytes) symbols = realm_behind bytes symbols

pub realm_back : (components : List (List ℕ)) (realm : List ℕ) → realm_in (of_name components realm) ≡ realm
unfolding realm_in
realm_back [] realm = bytes_back realm
realm_back (one ∷ []) realm = realm_behind one (Sign ∷ of_bytes realm) ∙ bytes_back realm
realm_back (one ∷ two ∷ others) realm =
    ap realm_in (append_assoc (of_bytes one) (Slash ∷ of_components (two ∷ others)) (Sign ∷ of_bytes realm)) ∙ realm_behind one (Slash ∷ of_name (two ∷ others) realm) ∙ realm_back (two ∷ others) realm

pub sign_behind : (bytes : List ℕ) (symbols : List Symbol) → has_sign (of_bytes bytes ++ symbols) ≡ has_sign symbols
unfolding has_sign
sign_behind [] symbols = refl
sign_behind (byte ∷ bytes) symbols = sign_behind bytes symbols

pub sign_in : (components : List (List ℕ)) (symbols : List Symbol) → has_sign (of_components components ++ symbols) ≡ has_sign symbols
unfolding has_sign
sign_in [] symbols = refl
sign_in (one ∷ []) symbols = sign_behind one symbols
sign_in (one ∷ two ∷ others) symbols =
    ap has_sign (append_assoc (of_bytes one) (Slash ∷ of_components (two ∷ others)) symbols) ∙ sign_behind one (Slash ∷ (of_components (two ∷ others) ++ symbols)) ∙ sign_in (two ∷ others) symbols

pub name_has_sign : (components : List (List ℕ)) (realm : List ℕ) → has_sign (of_name components realm) ≡ true
unfolding has_sign
name_has_sign components realm = sign_in components (Sign ∷ of_bytes realm)

pub components_have_none : (components : List (List ℕ)) → has_sign (of_components components) ≡ false
unfolding has_sign
components_have_none components = ap has_sign (sym (append-nil (of_components components))) ∙ sign_in components []
