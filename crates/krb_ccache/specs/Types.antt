-- The types of a cache and of its parts, passed on from one place. Declares nothing.
pub use Rattle.krb_ccache.specs.declared.credential.Credential.{Credential}
pub use Rattle.krb_ccache.specs.declared.credential.HeaderField.{HeaderField}
pub use Rattle.krb_ccache.specs.declared.fault.CacheFault.{CacheFault}
pub use Rattle.krb_ccache.specs.declared.fault.CacheFault.TheVariants.{Version, Header, BadItem, TooLong, Read, OutOfMemory}
pub use Rattle.krb_ccache.specs.declared.layout.Layout.{Layout}
pub use Rattle.krb_ccache.specs.declared.layout.Layout.TheVariants.{Version3, Version4}
pub use Rattle.krb_ccache.specs.declared.typed.TypedBytes.{TypedBytes}
pub use Rattle.krb_name.specs.declared.principal.Principal.{Principal}
