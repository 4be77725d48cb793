-- That a block holds a table, and how many words that takes: shut for those who bring it from here.
pub use Rattle.table.specs.Layout.{Holds, words_for}
