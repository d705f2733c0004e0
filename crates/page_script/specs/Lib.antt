pub mod FoundViews
pub mod PieceEnds
pub mod PieceTexts
pub mod ReadViews
pub mod ScriptPieces
