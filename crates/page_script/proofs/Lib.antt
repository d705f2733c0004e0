mod OneByte
mod OpenLiterals
mod Outside
mod PiecesAreText
mod SlashSteps
mod WhiteBytes
