pub mod ChainText
pub mod Explaining
pub mod Laws
pub mod Numbers
pub mod PairText
