-- That a block holds a state, and how many words an interval needs, for those who need not know how: shut to every other crate.
pub use Rattle.ids.specs.Layout.{Holds, Needs}
