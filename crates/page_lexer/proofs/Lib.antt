mod Decoding
mod Within
